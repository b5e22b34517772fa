-- What a heard message and an answered identifier leave of the waiting list, and where an identifier stands in it.
use Rattle.std.specs.Prelude.{Option, Some, None, is_some}
use Rattle.std.specs.List.{position, position_from, range_with_len}
use Rattle.std.proofs.lemmas.Iterator.Adapters.{position_from-zero}
use native.Mathlib.Numerals.{add-one}
use mathlib.Core.Bool.{Bool, true, false, cond}
use mir.Val.{bool_byte}
use lib.Dec.{eqb}
use Rattle.octets.specs.Choice.{pick}
use Rattle.frame.specs.Encoding.{weight}
use Rattle.book.specs.Waiting.{place_of}
use Rattle.turn_laws.proofs.Moved.{not_taken}
use Prim.Native.Nat.{ℕ, zero, suc, ◌+◌, ◌-◌, ◌<◌, ◌≤◌}
use mathlib.Core.Path.{◌≡◌, refl, ap, sym, ◌∙◌}
use mathlib.Core.List.{List, [], ◌++◌}
use native.Mathlib.Omega.{arith}
use borrow.Author.Tests.{eq-eqb, ne_eqb}
use lib.ListN.{length, take, drop, get_or, replicate}
use lib.Seq.{get_or-append-add, drop-cons}
use Rattle.book.specs.Book.{State, idle, single, multi, ending, assoc, Setup, ids_of}
use Rattle.book.specs.Picture.{padded, picture, setup_of, state_of}
use Rattle.book.specs.Ready.{Ready}
use Rattle.book.specs.declared.Unit.{Unit as Value}
use Rattle.turn_laws.specs.Moves.{advanced, rested}
use Rattle.turn.specs.Acts.{NoneBehind}

pub rested_4 : (u : Value) {k : ℕ} {v : Value} → k ≡ u.state → k ≡ 4 → v ≡ advanced u 4 0 → v ≡ rested u
unfolding rested
rested_4 u e h q = let z : u.state ≡ 4 = sym e ∙ h in q ∙ rw (eq-eqb u.state 4 z, z)

pub rested_not : (u : Value) {k : ℕ} → k ≡ u.state → (k ≡ 4 → ⊥) → u ≡ rested u
unfolding rested advanced
rested_not u e h = rw (ne_eqb u.state 4 (λ z. h (e ∙ z)))

-- ---- the places behind those that wait

zeros_at : (k j : ℕ) → get_or (replicate {A = ℕ} k 0) j 0 ≡ 0
zeros_at zero j = refl
zeros_at (suc k) zero = refl
zeros_at (suc k) (suc j) = zeros_at k j

padded_behind : (n : ℕ) (w : List ℕ) (j : ℕ) → length w ≤ j → get_or (padded n w) j 0 ≡ 0
unfolding padded
padded_behind n w j h =
    let e : j ≡ length w + (j - length w) = omega arith in
    ap (λ k. get_or (w ++ replicate (n - length w) 0) k 0) e ∙ get_or-append-add w (replicate (n - length w) 0) (j - length w) 0 ∙ zeros_at (n - length w) (j - length w)

pub none_behind : {u : Value} → Ready u → NoneBehind u
none_behind {u} r = go (setup_of u) (state_of u) u r.whole
  where
    go : (s : Setup) (st : State) (v : Value) → v ≡ picture s st → NoneBehind v
    go s idle v e j h = rw e (padded_behind 8 [] j (rw e at h))
    go s (single a w t) v e j h = rw e (padded_behind 8 w j (rw e at h))
    go s (multi a m t) v e j h = rw e (padded_behind 8 (ids_of m) j (rw e at h))
    go s (ending a w t) v e j h = rw e (padded_behind 8 w j (rw e at h))
    go s (assoc a w t) v e j h = rw e (padded_behind 8 w j (rw e at h))

pub rested_behind : (u : Value) {v : Value} → v ≡ rested u → NoneBehind u → NoneBehind v
unfolding rested advanced
rested_behind u e z j h = ap (λ (y : Value). get_or y.waiting j 0) e ∙ z j (rw e at h)

pub rested_count : (u : Value) {v : Value} → v ≡ rested u → v.count ≡ u.count
unfolding rested advanced
rested_count u e = ap (λ (y : Value). y.count) e

-- ---- where an identifier waits, by the places of the list

chosen : {A : Type 0} (b : Bool) (s t : A) → cond b s t ≡ pick b s t
chosen true s t = refl
chosen false s t = refl

placed_from : (w : List ℕ) (x i k : ℕ) → i + k ≤ length w → position_from (λ j. eqb x (get_or w j 0)) i (range_with_len i k) ≡ place_of x i (take k (drop i w))
placed_from w x i zero h = refl
placed_from w x i (suc k) h =
    let e : position_from (λ j. eqb x (get_or w j 0)) (i + 1) (range_with_len (i + 1) k) ≡ place_of x (suc i) (take k (drop (suc i) w)) =
    rw (← add-one i) (placed_from w x (i + 1) k (omega arith))
    in
    chosen (eqb x (get_or w i 0)) (Some i) _ ∙ ap (pick (eqb x (get_or w i 0)) (Some i)) e ∙ ap (λ l. place_of x i (take (suc k) l)) (sym (drop-cons w i 0 (omega arith)))

pub placed : (w : List ℕ) (x n : ℕ) → n ≤ length w → position (λ j. eqb x (get_or w j 0)) (range_with_len 0 n) ≡ place_of x 0 (take n w)
placed w x n h = position_from-zero (λ j. eqb x (get_or w j 0)) (range_with_len 0 n) ∙ placed_from w x 0 n (omega arith)

-- ---- as the laws of a request have it

pub some_found : {g : Option ℕ} → is_some g ≡ true → (j : ℕ) × (g ≡ Some j)
some_found {g = Some j} e = (j, refl)
some_found {g = None} e = not_taken e

pub none_found : {g : Option ℕ} → is_some g ≡ false → g ≡ None
none_found {g = Some j} e = not_taken (sym e)
none_found {g = None} e = refl

pub bit_weight : (b : Bool) → bool_byte b ≡ weight b 1
bit_weight true = refl
bit_weight false = refl

pub bit_small : (b : Bool) → bool_byte b < 2
bit_small true = omega arith
bit_small false = omega arith
