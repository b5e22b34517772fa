-- The configurations of the invariant after a step, each from equations for the new queues. Closed by rewriting with those equations.
use Rattle.std.specs.Prelude.{None}
use mathlib.Core.Path.{◌≡◌, refl, sym, ◌∙◌, ap, subst, fun_ext}
use mathlib.Core.Bool.{Bool, true, false}
use mathlib.Core.List.{List, [], ◌∷◌, ◌++◌, append-nil}
use Prim.Native.Nat.{ℕ, ◌<◌}
use native.Mathlib.Omega.{arith}
use native.Mathlib.Decide.{ℕ_discrete}
use lib.Dec.{eqb}
use Rattle.octets.specs.Choice.{both}
use Rattle.book.specs.Book.{Msg, Line, reply, dat, fin, State, idle, single, multi, ending, assoc, Setup, ids_of, waiting_of}
use Rattle.book.specs.declared.Terms.{Terms}
use Rattle.pair_laws.specs.Model.{Fate, broken, ask, Log, Queue, at, world, update, purge, busy, log_fate}
use Rattle.pair_laws.specs.Statement.{Good}
use Rattle.pair_laws.proofs.Facts.{Sent, wire, dats, dats-append, update_same, update_other, purge_other, purge_own, eqb_no}
use Rattle.pair_laws.proofs.Flow.{past_of}
use Rattle.pair_laws.proofs.Close.{books_flip, not_broken}
use Rattle.pair_laws.proofs.Inv.{Owes, Up, up, down, Un, Busy, in_single, in_multi, in_ending, in_assoc, Cut, Broken, near_broken, far_broken, Books, Talk, Severed, Behind, rested, turning, closing, severed, Ahead, resting, calling_single, calling_multi, stranded_single, stranded_multi, Inv, talking, dead, free, free', opening', tail}

pub update_id : (f : ℕ → Log) (d : ℕ) → update f d (f d) ≡ f
update_id f d = fun_ext λ n. go n (ℕ_discrete n d)
  where
    go : (n : ℕ) → Dec (n ≡ d) → update f d (f d) n ≡ f n
    go n (yes e) = rw e (update_same f d (f d))
    go n (no e) = update_other f d (f d) n e

pub books_near : {f g : ℕ → Log} {d next : ℕ} (l : Log) → Books f g d next → Books (update f d l) g d next
books_near {f} {g} {d} {next} l b = record {
  hist = λ n h. rw (update_other f d l n h) (b.hist n h);
  new = λ n h. rw (update_other f d l n (λ e. omega (arith, b.below))) (b.new n h);
  below = b.below;
}

-- The end that is ahead writes in its own dialogue.
pub books_ahead : {f g : ℕ → Log} {d e next : ℕ} (l : Log) → Good (f e) l → e < next → Books f g d next → Books f (update g e l) d next
books_ahead {f} {g} {d} {e} {next} l h lt b = record {
  hist = λ n ne. go n ne (ℕ_discrete n e);
  new = λ n ge. rw (update_other g e l n (λ q. omega arith)) (b.new n ge);
  below = b.below;
}
  where
    go : (n : ℕ) → (n ≡ d → ⊥) → Dec (n ≡ e) → Good (f n) (update g e l n)
    go n ne (yes q) = rw (q, update_same g e l) h
    go n ne (no q) = rw (update_other g e l n q) (b.hist n ne)

pub books_far : {f g : ℕ → Log} {d next : ℕ} (l : Log) → Books f g d next → Books f (update g d l) d next
books_far l b = books_flip (books_near l (books_flip b))

pub ahead_update : (f g : ℕ → Log) {d e next : ℕ} {v : State} {i : Bool} {st back : Queue} (l : Log) →
    Ahead e (g e) (f e) d next v i st back → Ahead e (g e) (update f d l e) d next v i st back
ahead_update f g l (resting lt) = resting lt
ahead_update f g {d} {e} l (calling_single o p q ne lt) = calling_single o p (update_other f d l e ne ∙ q) ne lt
ahead_update f g {d} {e} l (calling_multi p q ne lt) = calling_multi p (update_other f d l e ne ∙ q) ne lt
ahead_update f g {d} {e} l (stranded_single c v ne lt) = stranded_single c (rw (update_other f d l e ne) v) ne lt
ahead_update f g {d} {e} l (stranded_multi c v ne lt) = stranded_multi c (rw (update_other f d l e ne) v) ne lt

-- The configurations, where the near end has just written `l` into its log of d, with equations for the queues.
module _ {s t : Setup} {v : State} {d : ℕ} {f g : ℕ → Log} {acc ans acc' ans' : List ℕ} {next : ℕ} (l : Log) (k : Books f g d next) where
  pub make_talking : {u : State} {wa wb : List ℕ} {ea eb : Bool} {una unb : List ℕ} {out inn : Queue} (qa qb : List Sent) →
      Up u wa ea → Up v wb eb → Un ea una → Un eb unb → Talk l (g d) wa wb ea eb qa qb una unb →
      Owes acc ans wa → Owes acc' ans' wb → out ≡ dats d qa (tail d ea) → inn ≡ dats d qb (tail d eb) →
      Inv (world (at s u d false (update f d l) acc ans) (at t v d false g acc' ans') out inn next)
  make_talking {wa} {wb} {ea} {eb} {una} {unb} qa qb a b c e w p q eo ei =
      rw (eo, ei) (talking {qa = qa} {qb = qb} a b c e (subst (λ x. Talk x (g d) wa wb ea eb qa qb una unb) (sym (update_same f d l)) w)
      (books_near l k) p q)

  pub make_dead : {u : State} {x y : Line} → Busy u → Busy v → Cut x → Cut y → Severed l (g d) →
      Owes acc ans (waiting_of u) → Owes acc' ans' (waiting_of v) →
      Inv (world (at s u d true (update f d l) acc ans) (at t v d true g acc' ans') ((d, x) ∷ []) ((d, y) ∷ []) next)
  make_dead a b c e w p q = dead a b c e (subst (λ x. Severed x (g d)) (sym (update_same f d l)) w) (books_near l k) p q

  pub make_free : {u : State} {h i : Bool} {e : ℕ} {cl st back inn : Queue} →
      Behind d l (g d) u h cl → Ahead e (g e) (f e) d next v i st back →
      Owes acc ans (waiting_of u) → Owes acc' ans' (waiting_of v) → inn ≡ cl ++ st →
      Inv (world (at s u d h (update f d l) acc ans) (at t v e i g acc' ans') back inn next)
  make_free {u} {h} {cl} a b p q ei =
      rw ei (free (subst (λ x. Behind d x (g d) u h cl) (sym (update_same f d l)) a) (ahead_update f g l b) (books_near l k) p q)

  -- The near end has left, the far end is still in the dialogue (or left too).
  pub make_left : {h i : Bool} {cl out : Queue} → Behind d (g d) l v i cl →
      Owes acc ans [] → Owes acc' ans' (waiting_of v) → out ≡ cl →
      Inv (world (at s idle d h (update f d l) acc ans) (at t v d i g acc' ans') out [] next)
  unfolding waiting_of
  make_left {i} {cl} a p q eo =
      rw (eo ∙ sym (append-nil cl))
      (free' (subst (λ x. Behind d (g d) x v i cl) (sym (update_same f d l)) a) (resting k.below) (books_flip (books_near l k)) q p)

-- The near end was called and accepted; the caller has not heard.
pub make_opening' : {s t : Setup} {d : ℕ} {f g : ℕ → Log} {acc ans acc' ans' : List ℕ} {next : ℕ} {u : State} {T : Terms} {k' : Msg} {τ : ℕ}
    {wb : List ℕ} {eb : Bool} {unb : List ℕ} {out : Queue}
    (l : Log) → Books f g d next → (qb : List Sent) →
    Up u wb eb → Un eb unb → Talk (g d) l [] wb false eb [] qb [] unb →
    Owes acc ans wb → Owes acc' ans' (ids_of k') → out ≡ (d, reply true None) ∷ dats d qb (tail d eb) →
    Inv (world (at s u d false (update f d l) acc ans) (at t (multi T k' τ) d false g acc' ans') out [] next)
make_opening' {d} {f} {g} {wb} {eb} {unb} l k qb a b w p q eo =
    rw eo (opening' {qb = qb} a b (subst (λ x. Talk (g d) x [] wb false eb [] qb [] unb) (sym (update_same f d l)) w)
    (books_flip (books_near l k)) q p)

-- The near end is the one ahead, and has written `l` into its log of its dialogue e.
pub make_ahead : {s t : Setup} {u v : State} {d e : ℕ} {h i : Bool} {f g : ℕ → Log} {acc ans acc' ans' : List ℕ} {next : ℕ} {cl st back out : Queue}
    (l : Log) →
    Behind d (f d) (g d) u h cl → Ahead e l (f e) d next v i st back → Books f g d next → Good (f e) l → e < next → (e ≡ d → ⊥) →
    Owes acc ans (waiting_of u) → Owes acc' ans' (waiting_of v) → out ≡ cl ++ st →
    Inv (world (at t v e i (update g e l) acc' ans') (at s u d h f acc ans) out back next)
make_ahead {u} {v} {d} {e} {h} {i} {f} {g} {next} {cl} {st} {back} l a b k good lt ne p q eo =
    rw eo (free'
    (subst (λ x. Behind d (f d) x u h cl) (sym (update_other g e l d (λ z. ne (sym z)))) a)
    (subst (λ x. Ahead e x (f e) d next v i st back) (sym (update_same g e l)) b)
    (books_ahead l good lt k) p q)

-- The link, seen from a dialogue.
pub busy_true : {v : State} → Busy v → busy v ≡ true
unfolding busy
busy_true in_single = refl
busy_true in_multi = refl
busy_true in_ending = refl
busy_true in_assoc = refl

pub up_is_busy : {v : State} {w : List ℕ} {e : Bool} → Up v w e → Busy v
up_is_busy up = in_assoc
up_is_busy down = in_ending

-- The end that is ahead is not in the other's dialogue, and its start is no line of it.
pub ahead_outside : {d e next : ℕ} {a b : Log} {v : State} {i : Bool} {st back : Queue} → Ahead e a b d next v i st back →
    both (busy v) (eqb e d) ≡ false
unfolding busy
ahead_outside (resting lt) = refl
ahead_outside {d} {e} (calling_single o p q ne lt) = eqb_no e d ne
ahead_outside {d} {e} (calling_multi p q ne lt) = eqb_no e d ne
ahead_outside {d} {e} (stranded_single c v ne lt) = eqb_no e d ne
ahead_outside {d} {e} (stranded_multi c v ne lt) = eqb_no e d ne

pub ahead_purge : {d e next : ℕ} {a b : Log} {v : State} {i : Bool} {st back : Queue} → Ahead e a b d next v i st back → purge d st ≡ st
unfolding purge
ahead_purge (resting lt) = refl
ahead_purge {d} {e} (calling_single o p q ne lt) = purge_other d e _ [] ne
ahead_purge {d} {e} (calling_multi p q ne lt) = purge_other d e _ [] ne
ahead_purge (stranded_single c v ne lt) = refl
ahead_purge (stranded_multi c v ne lt) = refl

pub ahead_back : {d e next : ℕ} {a b : Log} {v : State} {i : Bool} {st back : Queue} → Ahead e a b d next v i st back → purge d back ≡ back
unfolding purge
ahead_back (resting lt) = refl
ahead_back (calling_single o p q ne lt) = refl
ahead_back (calling_multi p q ne lt) = refl
ahead_back {d} {e} (stranded_single c v ne lt) = purge_other d e _ [] ne
ahead_back {d} {e} (stranded_multi c v ne lt) = purge_other d e _ [] ne

dats_purge : (d e : ℕ) (q : List Sent) (r : Queue) → (d ≡ e → ⊥) → purge e (dats d q r) ≡ dats d q (purge e r)
unfolding dats
dats_purge d e [] r ne = refl
dats_purge d e (f ∷ q) r ne = purge_other e d (dat (wire f)) (dats d q r) ne ∙ ap (λ z. (d, dat (wire f)) ∷ z) (dats_purge d e q r ne)

pub behind_purge : {d : ℕ} {a b : Log} {u : State} {h : Bool} {cl : Queue} (e : ℕ) → (d ≡ e → ⊥) → Behind d a b u h cl → (st : Queue) →
    purge e (cl ++ st) ≡ cl ++ purge e st
behind_purge e ne (rested g) st = refl
behind_purge {d} e ne (turning r ea eb) st = purge_other e d _ st ne
behind_purge {d} e ne (closing {q = q} {l = l} x f r y z) st =
    ap (purge e) (dats-append d q ((d, l) ∷ []) st) ∙ dats_purge d e q ((d, l) ∷ st) ne ∙ ap (dats d q) (purge_other e d l st ne) ∙ sym
    (dats-append d q ((d, l) ∷ []) (purge e st))
behind_purge {d} e ne (severed b c v) st = purge_other e d _ st ne

pub purge_tail : (d : ℕ) (e : Bool) → purge d (tail d e) ≡ []
unfolding tail purge
purge_tail d true = purge_own d fin []
purge_tail d false = refl

-- Cutting.
pub sever_talk : {a b : Log} {wa wb : List ℕ} {ea eb : Bool} {qa qb : List Sent} {una unb : List ℕ} → Talk a b wa wb ea eb qa qb una unb →
    Severed (log_fate (λ f. broken) a) b
unfolding log_fate
sever_talk v = record { to_far = past_of v.to_far; to_near = past_of v.to_near; broke = near_broken }

pub sever_again : {a b : Log} → Severed a b → Severed (log_fate (λ f. broken) a) b
unfolding log_fate
sever_again v = record { to_far = v.to_far; to_near = v.to_near; broke = near_broken }

pub sever_good : {a b : Log} → Good a b → Good (log_fate (λ f. broken) a) b
unfolding log_fate
sever_good g = record {
  to_far = g.to_far;
  to_near = g.to_near;
  near_told = g.near_told;
  far_told = g.far_told;
  whole = λ o. absurd (not_broken near_broken o);
}

-- Accounts.
pub all_answered : {acc ans w : List ℕ} → Owes acc ans w → Owes (acc ++ []) (ans ++ (w ++ [])) []
all_answered {acc} {ans} {w} p = record { sum = simp append-nil p.sum }

pub same_account : {acc ans w : List ℕ} → Owes acc ans w → Owes (acc ++ []) (ans ++ []) w
same_account {acc} {ans} p = simp append-nil p

-- Fates.
pub ask_broken : {f g : Fate} → Broken f g → Broken (ask f) g
unfolding ask
ask_broken near_broken = near_broken
ask_broken far_broken = far_broken

pub outside_no : (u : State) (d e : ℕ) → (d ≡ e → ⊥) → both (busy u) (eqb d e) ≡ false
unfolding busy
outside_no u d e ne = rw (eqb_no d e ne) (go u)
  where
    go : (u : State) → both (busy u) false ≡ false
    go idle = refl
    go (single T w t) = refl
    go (multi T k t) = refl
    go (ending T w t) = refl
    go (assoc T w t) = refl
