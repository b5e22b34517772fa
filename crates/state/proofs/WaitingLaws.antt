-- The waiting list in its array: what std's words for a search say of it, and each step of a loop.
use Rattle.std.specs.Prelude.{Some}
use Rattle.std.specs.List.{position, position_from}
use Rattle.std.proofs.lemmas.Iterator.Adapters.{position_from-zero}
use Prim.Native.Nat.{ℕ, suc, ◌+◌, ◌<◌, ◌≤◌}
use mathlib.Core.Path.{◌≡◌, refl, ap, sym, ◌∙◌}
use mathlib.Core.Bool.{Bool, true, false, cond}
use mathlib.Core.List.{List, [], ◌∷◌, ◌++◌, append_assoc}
use native.Mathlib.Numerals.{add-one}
use native.Mathlib.Omega.{arith}
use borrow.Author.Tests.{lt-ltb, le-ltb}
use lib.Dec.{eqb}
use lib.ListN.{length, take, drop, get_or, set, drop_of_length-le}
use lib.Seq.{drop-cons, take-suc-set, drop-set-lt, set_split}
use Rattle.octets.specs.Choice.{pick}
use Rattle.book.specs.Waiting.{place_of, closed}

-- ---- find

either_word : {A : Type 0} (b : Bool) (s t : A) → cond b s t ≡ pick b s t
either_word true s t = refl
either_word false s t = refl

placed_from : (x i : ℕ) (w : List ℕ) → position_from (λ z. eqb x z) i w ≡ place_of x i w
placed_from x i [] = refl
placed_from x i (y ∷ w) =
    let e : position_from (λ z. eqb x z) (i + 1) w ≡ place_of x (suc i) w = rw add-one (placed_from x (suc i) w) in
    either_word (eqb x y) (Some i) (position_from (λ z. eqb x z) (i + 1) w) ∙ ap (pick (eqb x y) (Some i)) e

pub placed : (x : ℕ) (w : List ℕ) → position (λ y. eqb x y) w ≡ place_of x 0 w
placed x w = position_from-zero (λ y. eqb x y) w ∙ placed_from x 0 w

-- ---- without

closed_in : (w : List ℕ) (i : ℕ) → i < 8 → closed w i ≡ take i w ++ (drop (suc i) w ++ (0 ∷ []))
unfolding closed
closed_in w i h = rw (lt-ltb i 8 h)

pub closed_past : (w : List ℕ) (i : ℕ) → 8 ≤ i → w ≡ closed w i
unfolding closed
closed_past w i h = rw (le-ltb i 8 h)

-- closing up at i is closing up at i + 1 once the next entry is stored at i
pub closed_step : {o : List ℕ} (w : List ℕ) (i : ℕ) → length w ≡ 8 → i < 7 → closed w i ≡ o → closed (set w i (get_or w (i + 1) 0)) (i + 1) ≡ o
closed_step w i e h q =
    let h1 : i < length w = omega arith in
    let h2 : suc i < length w = omega arith in
    let z : closed (set w i (get_or w (i + 1) 0)) (i + 1) ≡ closed w i =
    rw (
      closed_in w i (omega arith),
      closed_in (set w i (get_or w (i + 1) 0)) (i + 1) (omega arith),
      add-one,
      take-suc-set w i (get_or w (suc i) 0) h1,
      drop-set-lt (suc (suc i)) w i (get_or w (suc i) 0) (omega arith),
      append_assoc,
      drop-cons w (suc i) 0 h2,
    )
    in
    z ∙ q

end_at : (w : List ℕ) (i : ℕ) → length w ≡ 8 → i ≡ 7 → closed w i ≡ set w 7 0
end_at w i e h =
    let z : drop 8 w ≡ [] = drop_of_length-le w {i = 8} (omega arith) in
    rw (h, closed_in w 7 (omega arith), set_split w 7 0 (omega arith), z)

pub closed_end : {o : List ℕ} (w : List ℕ) (i : ℕ) → length w ≡ 8 → i ≤ 7 → 7 ≤ i → closed w i ≡ o → set w 7 0 ≡ o
closed_end w i e h k q = sym (end_at w i e (omega arith)) ∙ q
