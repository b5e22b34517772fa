-- What the invariant says: demand 3; and its symmetry under `swap`. Closed by cases on the configuration.
use mathlib.Core.Path.{◌≡◌, refl, ◌∙◌}
use mathlib.Core.Bool.{Bool, true, false, false≢true}
use mathlib.Core.List.{List, [], ◌++◌, append-nil}
use Prim.Native.Nat.{ℕ}
use native.Mathlib.Omega.{arith}
use native.Mathlib.Decide.{ℕ_discrete}
use Rattle.book.specs.Book.{Msg, State, idle, multi, ids_of, waiting_of}
use Rattle.book.specs.declared.Terms.{Terms}
use Rattle.pair_laws.specs.Model.{Fate, going, asked, granted, turned, broken, Log, blank, Queue, World, swap}
use Rattle.pair_laws.specs.Statement.{ids, Good, InOrder, in_order, Demand3, demand3}
use Rattle.pair_laws.proofs.Facts.{Sent}
use Rattle.pair_laws.proofs.Flow.{Flow, Rest, past_of, past_of_rest}
use Rattle.pair_laws.proofs.Inv.{Owes, Up, up, down, Left, left_going, left_granted, Broken, near_broken, far_broken, Books, Talk, Severed, Behind, rested, turning, closing, severed, Inv, talking, dead, free, free', opening, opening', fate_of, called_log, given_log}

no_far_broken : (f : Fate) → InOrder f broken → ⊥
unfolding in_order
no_far_broken going o = false≢true o
no_far_broken asked o = false≢true o
no_far_broken granted o = false≢true o
no_far_broken turned o = false≢true o
no_far_broken broken o = false≢true o

pub not_broken : {f g : Fate} → Broken f g → InOrder f g → ⊥
unfolding in_order
not_broken near_broken o = false≢true o
not_broken (far_broken {f = f}) o = no_far_broken f o

not_talking : (a b : Bool) → InOrder (fate_of a) (fate_of b) → ⊥
unfolding fate_of in_order
not_talking true true o = false≢true o
not_talking true false o = false≢true o
not_talking false true o = false≢true o
not_talking false false o = false≢true o

pub not_going : InOrder going going → ⊥
unfolding in_order
not_going o = false≢true o

not_closing : {g : Fate} → Left g → InOrder asked g → ⊥
unfolding in_order
not_closing left_going o = false≢true o
not_closing left_granted o = false≢true o

pub good_severed : {a b : Log} → Severed a b → Good a b
good_severed v = record {
  to_far = v.to_far.first;
  to_near = v.to_near.first;
  near_told = v.to_far.told;
  far_told = v.to_near.told;
  whole = λ o. absurd (not_broken v.broke o);
}

pub good_talk : {a b : Log} {wa wb : List ℕ} {ea eb : Bool} {qa qb : List Sent} {una unb : List ℕ} → Talk a b wa wb ea eb qa qb una unb → Good a b
good_talk {ea} {eb} v =
    let p = past_of v.to_far in
    let q = past_of v.to_near in
    record {
      to_far = p.first;
      to_near = q.first;
      near_told = p.told;
      far_told = q.told;
      whole = λ o. absurd (not_talking ea eb (rw (v.near_fate, v.far_fate) at o));
    }

pub good_blank : Good blank blank
unfolding blank ids
good_blank = record { to_far = ([], refl); to_near = ([], refl); near_told = ([], refl); far_told = ([], refl); whole = λ o. (refl, refl) }

-- The dialogue of an end that is behind is good too.
pub good_turning : {a b : Log} (m : Msg) → a ≡ called_log m → b ≡ given_log m → Good a b
unfolding called_log given_log ids
good_turning m ea eb = rw (ea, eb) (record {
  to_far = ([], refl);
  to_near = ([], refl);
  near_told = (ids_of m ++ [], refl);
  far_told = ([], refl);
  whole = λ o. absurd (not_going o);
})

pub good_closing : {a b : Log} {w : List ℕ} {q : List Sent} {un : List ℕ} →
    Flow a.handed b.given a.okays w [] q un → Rest b.handed a.given b.okays q → a.fate ≡ asked → Left b.fate → Good a b
good_closing f r e left =
    let p = past_of f in
    let q = past_of_rest r in
    record {
      to_far = p.first;
      to_near = q.first;
      near_told = p.told;
      far_told = q.told;
      whole = λ o. absurd (not_closing left (rw e at o));
    }

pub good_behind : {d : ℕ} {a b : Log} {u : State} {h : Bool} {q : Queue} → Behind d a b u h q → Good a b
good_behind (rested g) = g
good_behind (turning {m = m} r ea eb) = good_turning m ea eb
good_behind (closing l f r e k) = good_closing f r e k
good_behind (severed b c v) = good_severed v

pub good_all : {f g : ℕ → Log} {d next : ℕ} → Books f g d next → Good (f d) (g d) → (n : ℕ) → Good (f n) (g n)
good_all {f} {g} {d} b h n = go (ℕ_discrete n d)
  where
    go : Dec (n ≡ d) → Good (f n) (g n)
    go (yes e) = rw e h
    go (no e) = b.hist n e

-- An end in Idle waits for nothing.
answered : {acc ans : List ℕ} {u : State} → Owes acc ans (waiting_of u) → u ≡ idle → acc ≡ ans
unfolding waiting_of
answered {ans} {u} p e = p.sum ∙ (rw e (append-nil ans))

pub up_waits : {u : State} {w : List ℕ} {e : Bool} → Up u w e → waiting_of u ≡ w
unfolding waiting_of
up_waits up = refl
up_waits down = refl

up_answered : {acc ans w : List ℕ} {u : State} {e : Bool} → Up u w e → Owes acc ans w → u ≡ idle → acc ≡ ans
up_answered {acc} {ans} {u} h p e = answered {u = u} (rw (up_waits h) p) e

flip_in : (f g : Fate) → in_order f g ≡ in_order g f
unfolding in_order
flip_in going going = refl
flip_in going asked = refl
flip_in going granted = refl
flip_in going turned = refl
flip_in going broken = refl
flip_in asked going = refl
flip_in asked asked = refl
flip_in asked granted = refl
flip_in asked turned = refl
flip_in asked broken = refl
flip_in granted going = refl
flip_in granted asked = refl
flip_in granted granted = refl
flip_in granted turned = refl
flip_in granted broken = refl
flip_in turned going = refl
flip_in turned asked = refl
flip_in turned granted = refl
flip_in turned turned = refl
flip_in turned broken = refl
flip_in broken going = refl
flip_in broken asked = refl
flip_in broken granted = refl
flip_in broken turned = refl
flip_in broken broken = refl

flip_order : (f g : Fate) → InOrder f g → InOrder g f
flip_order f g o = flip_in g f ∙ o

pub good_flip : {a b : Log} → Good a b → Good b a
good_flip {a} {b} g = record {
  to_far = g.to_near;
  to_near = g.to_far;
  near_told = g.far_told;
  far_told = g.near_told;
  whole = λ o. let h = g.whole (flip_order b.fate a.fate o) in (h.1, h.0);
}

pub talk_flip : {a b : Log} {wa wb : List ℕ} {ea eb : Bool} {qa qb : List Sent} {una unb : List ℕ} →
    Talk a b wa wb ea eb qa qb una unb → Talk b a wb wa eb ea qb qa unb una
talk_flip v = record { to_far = v.to_near; to_near = v.to_far; near_fate = v.far_fate; far_fate = v.near_fate }

broken_flip : {f g : Fate} → Broken f g → Broken g f
broken_flip near_broken = far_broken
broken_flip far_broken = near_broken

pub severed_flip : {a b : Log} → Severed a b → Severed b a
severed_flip v = record { to_far = v.to_near; to_near = v.to_far; broke = broken_flip v.broke }

pub books_flip : {f g : ℕ → Log} {d next : ℕ} → Books f g d next → Books g f d next
books_flip b = record { hist = λ n h. good_flip (b.hist n h); new = λ n h. ((b.new n h).1, (b.new n h).0); below = b.below }

pub inv_swap : {w : World} → Inv w → Inv (swap w)
unfolding swap
inv_swap (talking a b c d v k p q) = talking b a d c (talk_flip v) (books_flip k) q p
inv_swap (dead a b c d v k p q) = dead b a d c (severed_flip v) (books_flip k) q p
inv_swap (free a b k p q) = free' a b k p q
inv_swap (free' a b k p q) = free a b k p q
inv_swap (opening a b v k p q) = opening' a b v k p q
inv_swap (opening' a b v k p q) = opening a b v k p q

-- The invariant gives the demand.
idle_of_multi : {A : Type 0} (T : Terms) (k : Msg) (t : ℕ) → multi T k t ≡ idle → A
idle_of_multi T k t e = let z : ◌≡◌ {A = ℕ} 0 1 = cc in absurd (omega arith)

pub demanded : {w : World} → Inv w → Demand3 w
demanded (talking a b c d v k p q) = demand3 (good_all k (good_talk v)) (up_answered a p) (up_answered b q)
demanded (dead a b c d v k p q) = demand3 (good_all k (good_severed v)) (λ e. answered p e) (λ e. answered q e)
demanded (free a b k p q) = demand3 (good_all k (good_behind a)) (λ e. answered p e) (λ e. answered q e)
demanded (free' a b k p q) = demand3 (λ n. good_flip (good_all k (good_behind a) n)) (λ e. answered q e) (λ e. answered p e)
demanded (opening {T = T} {k = m} {τ = t} a b v k p q) = demand3 (good_all k (good_talk v)) (λ e. idle_of_multi T m t e) (up_answered a q)
demanded (opening' {T = T} {k = m} {τ = t} a b v k p q) = demand3 (λ n. good_flip (good_all k (good_talk v) n)) (up_answered a q)
    (λ e. idle_of_multi T m t e)
