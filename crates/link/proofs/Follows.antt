-- The pair in octets follows the pair of the rule book: what a step makes of related worlds is related. Closed by cases on the line, and by
-- induction on the lines of a step.
use Prim.Native.Nat.{ℕ}
use mathlib.Core.Path.{◌≡◌, refl, ap, ◌∙◌}
use mathlib.Core.Bool.{Bool, true, false}
use mathlib.Core.List.{List, [], ◌∷◌, ◌++◌, map}
use lib.Dec.{eqb}
use Rattle.octets.specs.Choice.{pick, both}
use Rattle.frame.specs.Message.{Extension}
use Rattle.book.specs.Book.{plain, sure, Line, start, reply, dat, fin, fin_ok, cut, lost, Out, give, answer, ended, gone, seen, send, State, idle, single, multi, ending, assoc, Setup, Outcome, refused, done}
use Rattle.book.specs.Lines.{line_of}
use Rattle.book.specs.Picture.{picture}
use Rattle.pair_laws.specs.Model as M
use Rattle.pair_laws.proofs.Named.{NamedOutcome, n_done}
use Rattle.sound_laws.proofs.Within.{Within, Limited}
use Rattle.sound_laws.proofs.Rules.{Keeps, goes}
use Rattle.link.specs.Wire.{kind_of, handed_over}
use Rattle.link.specs.Link.{Log, update, Queue, End, at, World, world, swap, purge, busy, inside, hang, post, sever, far_inside, near_inside, carry, carry_all, act, act_there, start_comes}
use Rattle.link.proofs.Fine.{FineLine, starts, replies, dats, fins, fin_oks, cuts, FineOut, gives, answers, ends, gones, seens, sends, AllFine, none_left, also, FineOutcome, fine_done}
use Rattle.link.proofs.Frames.{count}
use Rattle.link.proofs.Related.{RelLog, rel_outs, rel_answers}
use Rattle.link.proofs.Wires.{kind_in, Wire, wire_cut, wire_sent}
use Rattle.link.proofs.Pictures.{next_picture}

-- ---- related ends, queues, worlds

pub data RelEnd : End → M.End → Type 0 where
  rel_end : {s : Setup} {st : State} {d : ℕ} {h : Bool} {F : ℕ → Log} {f : ℕ → M.Log} {acc ans : List ℕ}
      → Limited s → Within s st → ((n : ℕ) → RelLog (F n) (f n)) → RelEnd (at (picture s st) d h F acc ans) (M.at s st d h f acc ans)

pub data RelQueue : Queue → M.Queue → Type 0 where
  q_none : RelQueue [] []
  q_also : {d : ℕ} {ev : List ℕ} {l : Line} {Q : Queue} {q : M.Queue} → Wire ev l → RelQueue Q q → RelQueue ((d, ev) ∷ Q) ((d, l) ∷ q)

pub data RelWorld : World → M.World → Type 0 where
  rel_world : {A B : End} {a b : M.End} {O I : Queue} {o i : M.Queue} {next : ℕ}
      → RelEnd A a → RelEnd B b → RelQueue O o → RelQueue I i → RelWorld (world A B O I next) (M.world a b o i next)

pub rel_swap : {W : World} {w : M.World} → RelWorld W w → RelWorld (swap W) (M.swap w)
unfolding M.swap
rel_swap (rel_world a b o i) = rel_world b a i o

-- ---- queues

rel_append : {Q R : Queue} {q r : M.Queue} → RelQueue Q q → RelQueue R r → RelQueue (Q ++ R) (q ++ r)
rel_append q_none t = t
rel_append (q_also w q) t = q_also w (rel_append q t)

pub rel_purge : (d : ℕ) {Q : Queue} {q : M.Queue} → RelQueue Q q → RelQueue (purge d Q) (M.purge d q)
unfolding M.purge
rel_purge d q_none = q_none
rel_purge d (q_also {d = n} {ev} {l} {Q} {q} w t) = go (eqb n d) (rel_purge d t)
  where
    go : (b : Bool) → RelQueue (purge d Q) (M.purge d q) → RelQueue (pick b (purge d Q) ((n, ev) ∷ purge d Q)) (pick b (M.purge d q) ((n, l) ∷ M.purge d q))
    go true p = p
    go false p = q_also w p

start_kind : (l : Line) → eqb (kind_in l) 0x10 ≡ M.is_start l
unfolding M.is_start
start_kind (start a f) = refl
start_kind (reply b f) = refl
start_kind (dat f) = refl
start_kind fin = refl
start_kind (fin_ok b) = refl
start_kind (cut r) = refl
start_kind lost = refl

pub is_start : {ev : List ℕ} {l : Line} → Wire ev l → eqb (kind_of ev) 0x10 ≡ M.is_start l
is_start {ev} {l} w = ap (λ k. eqb k 0x10) w.kind ∙ start_kind l

pub rel_comes : {Q : Queue} {q : M.Queue} → RelQueue Q q → start_comes Q ≡ M.start_comes q
unfolding M.start_comes
rel_comes q_none = refl
rel_comes (q_also w t) = rw (is_start w, rel_comes t)

-- ---- ends

pub rel_busy : (s : Setup) (st : State) → busy (picture s st) ≡ M.busy st
unfolding M.busy
rel_busy s idle = refl
rel_busy s (single a w t) = refl
rel_busy s (multi a k t) = refl
rel_busy s (ending a w t) = refl
rel_busy s (assoc a w t) = refl

pub rel_inside : (d : ℕ) {A : End} {a : M.End} → RelEnd A a → inside d A ≡ M.inside d a
unfolding M.inside
rel_inside d (rel_end {s} {st} {d = n} l w f) = ap (λ b. both b (eqb n d)) (rel_busy s st)

rel_hang : {A : End} {a : M.End} → RelEnd A a → RelEnd (hang A) (M.hang a)
unfolding M.hang
rel_hang (rel_end l w f) = rel_end l w f

pub rel_update : {F : ℕ → Log} {f : ℕ → M.Log} (d : ℕ) {X : Log} {x : M.Log} → ((n : ℕ) → RelLog (F n) (f n)) → RelLog X x → (n : ℕ) → RelLog (update F d X n) (M.update f d x n)
unfolding M.update
rel_update {F} {f} d {X} {x} r p n = go (eqb n d)
  where
    go : (b : Bool) → RelLog (pick b X (F n)) (pick b x (f n))
    go true = p
    go false = r n

-- ---- the near end sends

rel_post : (d : ℕ) {ev : List ℕ} {l : Line} → Wire ev l → {W : World} {w : M.World} → RelWorld W w → RelWorld (post d ev W) (M.post d l w)
unfolding M.post
rel_post d {ev} {l} v (rel_world {O = O} {o = o} (rel_end {h = h} t u f) b q i) = rel_world (rel_end t u f) b (go h) i
  where
    go : (x : Bool) → RelQueue (pick x O (O ++ ((d, ev) ∷ []))) (pick x o (o ++ ((d, l) ∷ [])))
    go true = q
    go false = rel_append q (q_also v q_none)

rel_sever : (d r : ℕ) (b : Bool) {W : World} {w : M.World} → RelWorld W w → RelWorld (sever d b W) (M.sever d r b w)
unfolding M.sever
rel_sever d r true (rel_world a b o i) = rel_world a (rel_hang b) (q_also (wire_cut r) (rel_purge d o)) (rel_purge d i)
rel_sever d r false (rel_world a b o i) = rel_world a b (rel_purge d o) (rel_purge d i)

rel_far : (d : ℕ) {W : World} {w : M.World} → RelWorld W w → far_inside d W ≡ M.far_inside d w
unfolding M.far_inside
rel_far d (rel_world a b o i) = rel_inside d b

pub rel_near : (d : ℕ) {W : World} {w : M.World} → RelWorld W w → near_inside d W ≡ M.near_inside d w
unfolding M.near_inside
rel_near d (rel_world a b o i) = rel_inside d a

rel_cut : (d n : ℕ) {W : World} {w : M.World} → RelWorld W w → RelWorld (sever d (far_inside d W) W) (M.sever d n (M.far_inside d w) w)
rel_cut d n {W} {w} r = rw (rel_far d r) (rel_sever d n (M.far_inside d w) r)

rel_carry : (xs : List Extension) (d : ℕ) {l : Line} → FineLine l → {W : World} {w : M.World} → RelWorld W w
    → RelWorld (carry d (handed_over xs (line_of (send l))) W) (M.carry (count xs) d l w)
unfolding carry handed_over M.carry M.extended
rel_carry xs d (starts t g) r = rel_post d (wire_sent xs (starts t g) refl) r
rel_carry xs d (replies g) r = rel_post d (wire_sent xs (replies g) refl) r
rel_carry xs d (dats g) r = rel_post d (wire_sent xs (dats g) refl) r
rel_carry xs d fins r = rel_post d (wire_sent xs fins refl) r
rel_carry xs d (fin_oks {b}) r = rel_post d (wire_sent xs (fin_oks {b = b}) refl) r
rel_carry xs d (cuts {r = n}) r = rel_cut d n r

-- ---- all lines of a step

-- the first line, where the others are known to go on
abbrev Goes : List Extension → ℕ → List Out → Type 0
Goes xs d os = (W : World) (w : M.World) → RelWorld W w → RelWorld (carry_all d (map (λ o. handed_over xs (line_of o)) os) W) (M.emit (count xs) d os w)

first_line : (xs : List Extension) (d : ℕ) (o : Out) → FineOut o → (os : List Out) → Goes xs d os → Goes xs d (o ∷ os)
unfolding carry handed_over M.emit
first_line xs d (give t (plain i j q b)) (gives al) os f W w r = f W w r
first_line xs d (give t (sure i j q b)) (gives al) os f W w r = f W w r
first_line xs d (answer i k g) (answers al) os f W w r = f W w r
first_line xs d ended ends os f W w r = f W w r
first_line xs d (gone k) gones os f W w r = f W w r
first_line xs d (seen k) seens os f W w r = f W w r
first_line xs d (send l) (sends g) os f W w r = f _ _ (rel_carry xs d g r)

rel_emit : (xs : List Extension) (d : ℕ) (os : List Out) → AllFine os → Goes xs d os
unfolding M.emit
rel_emit xs d [] none_left W w r = r
rel_emit xs d (o ∷ os) (also g gs) W w r = first_line xs d o g os (rel_emit xs d os gs) W w r

-- ---- an outcome put into the world

abbrev pub RelHeard : (Log → Log) → (M.Log → M.Log) → Type 0
RelHeard H h = (A : Log) (a : M.Log) → RelLog A a → RelLog (H A) (h a)

-- what is known of an outcome: its lines are fine and name what they answer, its state is within the limits
pub record Known (s : Setup) (o : Outcome) : Type 0 where
  pub are_fine : FineOutcome o
  pub are_named : NamedOutcome o
  pub keeps : Keeps s o

-- the near end of related worlds
pub data Near (s : Setup) (st : State) : World → M.World → Type 0 where
  near : {d : ℕ} {k : Bool} {F : ℕ → Log} {f : ℕ → M.Log} {acc ans : List ℕ} {B : End} {b : M.End} {O I : Queue} {p i : M.Queue} {next : ℕ}
      → Limited s → Within s st → ((n : ℕ) → RelLog (F n) (f n)) → RelEnd B b → RelQueue O p → RelQueue I i
      → Near s st (world (at (picture s st) d k F acc ans) B O I next) (M.world (M.at s st d k f acc ans) b p i next)

pub of_near : {s : Setup} {st : State} {W : World} {w : M.World} → Near s st W w → RelWorld W w
of_near (near l w f b o i) = rel_world (rel_end l w f) b o i

module _ (xs : List Extension) (new : List ℕ) {H : Log → Log} {h : M.Log → M.Log} (e : RelHeard H h) {s : Setup} {st : State} where
  pub rel_act : (o : Outcome) → Known s o → {W : World} {w : M.World} → Near s st W w → RelWorld (act xs new H o W) (M.act (count xs) new h o w)
  unfolding act M.act
  rel_act (refused n) v r = of_near r
  rel_act (done u os) v (near {d} {k} {F} {f} {acc} {ans} {B} {b} {O} {I} {p} {i} {next} l w r e' o' i') = go v.are_fine v.are_named v.keeps
    where
      go : FineOutcome (done u os) → NamedOutcome (done u os) → Keeps s (done u os)
          → RelWorld (act xs new H (done u os) (world (at (picture s st) d k F acc ans) B O I next)) (M.act (count xs) new h (done u os) (M.world (M.at s st d k f acc ans) b p i next))
      go (fine_done g) (n_done m) (goes z) =
          rw (next_picture s l st w u os, rel_answers xs os g m)
          (rel_emit xs d os g _ _ (rel_world (rel_end l z (rel_update d r (rel_outs xs os g m (e (F d) (f d) (r d))))) e' o' i'))

  pub rel_act_there : (o : Outcome) → Known s o → {W T : World} {w t : M.World} → RelWorld W w → Near s st T t
      → RelWorld (act_there xs new H o W T) (M.act_there (count xs) new h o w t)
  unfolding act_there M.act_there
  rel_act_there (refused n) k r t = r
  rel_act_there (done u os) k r t = rel_act (done u os) k t
