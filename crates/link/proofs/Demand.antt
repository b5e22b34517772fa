-- DEMAND 3 HOLDS, of every run of two units and a link, in octets. Closed by the rule book's pair (crate pair_laws), which each run follows (Steps).
use Prim.Native.Nat.{ℕ}
use mathlib.Core.Path.{◌≡◌, refl, ap, sym, ◌∙◌}
use mathlib.Core.Bool.{Bool, true, false}
use mathlib.Core.List.{List, [], ◌∷◌, ◌++◌, map}
use native.Mathlib.Omega.{arith}
use lib.ListN.{length}
use Rattle.octets.specs.Choice.{pick, either}
use Rattle.book.specs.declared.Refusal.TheVariants.{WrongState}
use Rattle.book.specs.Book.{Msg, State, idle, single, multi, ending, assoc, Setup, Outcome, refused}
use Rattle.book.specs.Picture.{picture}
use Rattle.book.specs.Sound.{within_limits}
use Rattle.book.specs.Step.{step, set_up}
use Rattle.pair_laws.specs.Model as M
use Rattle.pair_laws.specs.Statement as S
use Rattle.pair_laws.specs.Statement.{Prefix, ids}
use Rattle.pair_laws.proofs.Inv.{Inv}
use Rattle.pair_laws.proofs.Close.{inv_swap, demanded}
use Rattle.pair_laws.proofs.Demand.{inv_near, inv_beginning}
use Rattle.pair_laws.proofs.Taken.{taken}
use Rattle.pair_laws.proofs.Named.{suits}
use Rattle.sound_laws.proofs.Within.{Within, in_idle, Limited}
use Rattle.link.specs.Link.{Log, blank, fields_in, at, Queue, World, swap, inside, as_heard, from_user, ask_near, Side, near, far, Act, user, deliver, abort, do_near, do_at, run, beginning}
use Rattle.link.specs.Statement.{Good, is_taken, next_taken, Demand3, demand3, Theorem}
use Rattle.link.proofs.Related.{RelLog, fields_of}
use Rattle.link.proofs.Pictures.{step_picture}
use Rattle.link.proofs.Follows.{rel_end, RelQueue, q_none, q_also, RelWorld, rel_world, rel_swap, is_start, rel_inside}
use Rattle.link.proofs.Steps.{Follows, stays, goes_on, rel_deliver, rel_break, rel_user, wire_heard}

-- ---- every run is followed

-- a world that the rule book's pair has reached too
record Reached (W : World) : Type 0 where
  at_book : M.World
  related : RelWorld W at_book
  invariant : Inv at_book

followed : {W T : World} (r : Reached W) → Follows T r.at_book → Reached T
followed r (stays k) = record { at_book = r.at_book; related = k; invariant = r.invariant }
followed r (goes_on c k) = record { at_book = M.do_near c r.at_book; related = k; invariant = inv_near c r.at_book r.invariant }

reached_near : (c : Act) {W : World} → Reached W → Reached (do_near c W)
unfolding M.do_near
reached_near (user xs ev) {W} r = go (from_user ev) refl
  where
    go : (b : Bool) → from_user ev ≡ b → Reached (pick b (ask_near xs ev W) W)
    go true e = followed r (rel_user xs ev e r.related)
    go false e = r
reached_near (deliver xs) r = followed r (goes_on (M.deliver _) (rel_deliver xs r.related (suits r.invariant)))
reached_near abort r = followed r (goes_on M.abort (rel_break r.related))

reached_swap : {W : World} → Reached W → Reached (swap W)
reached_swap r = record { at_book = M.swap r.at_book; related = rel_swap r.related; invariant = inv_swap r.invariant }

reached_at : (e : Side) (c : Act) {W : World} → Reached W → Reached (do_at e c W)
reached_at near c r = reached_near c r
reached_at far c r = reached_swap (reached_near c (reached_swap r))

reached_run : (cs : List (Side × Act)) {W : World} → Reached W → Reached (run cs W)
unfolding run
reached_run [] r = r
reached_run (c ∷ cs) r = reached_run cs (reached_at c.0 c.1 r)

-- ---- what the rule book's pair promises, in octets

map-append : {A B : Type 0} (f : A → B) (xs ys : List A) → map f (xs ++ ys) ≡ map f xs ++ map f ys
map-append f [] ys = refl
map-append f (x ∷ xs) ys = ap (λ l. f x ∷ l) (map-append f xs ys)

prefix_of : (g h : List Msg) (G H : List (List ℕ)) → Prefix g h → map fields_in G ≡ map fields_of g → map fields_in H ≡ map fields_of h
    → Prefix (map fields_in G) (map fields_in H)
prefix_of g h G H p a b = (map fields_of p.0, rw (a, b) (sym (map-append fields_of g p.0) ∙ ap (map fields_of) p.1))

named_prefix : {g h G H : List ℕ} → Prefix g h → G ≡ g → H ≡ h → Prefix G H
named_prefix p a b = (p.0, rw (a, b) p.1)

good_of : {A B : Log} {a b : M.Log} → RelLog A a → RelLog B b → S.Good a b → Good A B
good_of {A} {B} {a} {b} r k g = record {
  to_far = prefix_of b.given a.handed B.given A.handed g.to_far k.given r.handed;
  to_near = prefix_of a.given b.handed A.given B.handed g.to_near r.given k.handed;
  whole = λ o. let h = g.whole (rw (r.fate, k.fate) at o) in
      (k.given ∙ ap (map fields_of) h.0 ∙ sym r.handed, r.given ∙ ap (map fields_of) h.1 ∙ sym k.handed);
  near_told = named_prefix g.near_told r.told k.confirmed;
  far_told = named_prefix g.far_told k.told r.confirmed;
}

-- a unit in Idle is the picture of Idle
idle_of : (s : Setup) (st : State) → (picture s st).state ≡ 0 → st ≡ idle
idle_of s idle e = refl
idle_of s (single a w t) e = absurd (omega arith)
idle_of s (multi a k t) e = absurd (omega arith)
idle_of s (ending a w t) e = absurd (omega arith)
idle_of s (assoc a w t) e = absurd (omega arith)

-- ---- the next line is taken

taken_of : {o : Outcome} → S.Accepted o → is_taken o ≡ true
taken_of S.accepted = refl

module _ (s : Setup) (st : State) (d : ℕ) (h : Bool) (F : ℕ → Log) (f : ℕ → M.Log) (acc ans : List ℕ) (b : M.End) (o : M.Queue) (n : ℕ)
    (limited : Limited s) (within : Within s st) where
  next_taken_lem : {I : Queue} {i : M.Queue} → RelQueue I i → ((k : ℕ) → RelLog (F k) (f k)) → S.Accepted (S.answer_to_next (M.world (M.at s st d h f acc ans) b o i n))
      → next_taken (at (picture s st) d h F acc ans) I ≡ true
  unfolding S.answer_to_next
  next_taken_lem q_none g t = refl
  next_taken_lem (q_also {d = e} {ev} {l} v q) g t = rw (is_start v, rel_here e g) (go (either (M.is_start l) (M.inside e (M.at s st d h f acc ans))) t)
    where
      rel_here : (e : ℕ) → ((k : ℕ) → RelLog (F k) (f k)) → inside e (at (picture s st) d h F acc ans) ≡ M.inside e (M.at s st d h f acc ans)
      rel_here e g = rel_inside e (rel_end limited within g)

      go : (x : Bool) → S.Accepted (pick x (M.on_line s (M.as_heard st l) st) (refused WrongState))
          → pick x (is_taken (step 1024 (picture s st) (as_heard (picture s st) ev))) false ≡ true
      go true k = ap is_taken (step_picture s limited st within (as_heard (picture s st) ev) ∙ (wire_heard s st l v).says s st) ∙ taken_of k
      go false k = taken_of k

demand_of : {W : World} (r : Reached W) → Demand3 W
unfolding M.swap
demand_of r = go r.related (demanded r.invariant) (taken r.invariant) (taken (inv_swap r.invariant))
  where
    go : {W : World} {w : M.World} → RelWorld W w → S.Demand3 w → S.Accepted (S.answer_to_next w) → S.Accepted (S.answer_to_next (M.swap w)) → Demand3 W
    go (rel_world (rel_end {s} {st} {d} {h} {F} {f} {acc} {ans} i y r) (rel_end {s = t} {st = v} {d = e} {h = k} {F = G} {f = g} {acc = bcc} {ans = bns} j z x) p q) (S.demand3 c n m) a b =
        demand3 {a = at (picture s st) d h F acc ans} {b = at (picture t v) e k G bcc bns} (λ i. good_of (r i) (x i) (c i)) (λ u. n (idle_of s st u)) (λ u. m (idle_of t v u)) (next_taken_lem s st d h F f acc ans _ _ _ i y q r a) (next_taken_lem t v e k G g bcc bns _ _ _ j z p x b)

-- ---- the theorem

rel_blank : RelLog blank M.blank
unfolding M.blank ids
rel_blank = record { handed = refl; given = refl; confirmed = refl; told = refl; fate = refl }

set_up_lem : (start end inactivity : ℕ) (name : List ℕ) → within_limits start end inactivity (length name) ≡ true
    → (set_up start end inactivity name).unit ≡ picture (record { name = name; start_limit = start; end_limit = end; inactivity_limit = inactivity }) idle
unfolding set_up
set_up_lem start end inactivity name e = rw e

rel_begun : (s t : Setup) → Limited s → Limited t → RelWorld (beginning (picture s idle) (picture t idle)) (M.beginning s t)
unfolding M.beginning M.new_end
rel_begun s t i j = rel_world (rel_end i in_idle (λ n. rel_blank)) (rel_end j in_idle (λ n. rel_blank)) q_none q_none

begins : (s t : Setup) → Limited s → Limited t → Reached (beginning (picture s idle) (picture t idle))
begins s t i j = record {
  at_book = M.beginning s t;
  related = rel_begun s t i j;
  invariant = inv_beginning s t;
}

pub theorem : Theorem
theorem start end inactivity name e start' end' inactivity' name' e' cs =
    rw (set_up_lem start end inactivity name e, set_up_lem start' end' inactivity' name' e')
    (demand_of (reached_run cs
    (begins (record { name = name; start_limit = start; end_limit = end; inactivity_limit = inactivity })
    (record { name = name'; start_limit = start'; end_limit = end'; inactivity_limit = inactivity' }) e e')))
