-- The waiting list by its places: whether an identifier stands among some of them, and whether one stands there twice.
use Rattle.std.proofs.Common.{ℕ, zero, suc, ◌+◌, ◌-◌, ◌<◌, ◌≤◌, ◌≡◌, refl, ap, sym, ◌∙◌, Bool, true, false, List, [], ◌∷◌, ◌||◌, length, take, drop, get_or, arith, drop-cons}
use borrow.Author.Tests.{eq-eqb, ne_eqb, eqb-true, eqb-false}
use lib.Dec.{eqb}
use lib.ListN.{drop_of_length-le}
use Rattle.std.specs.List.{list_any, range_with_len, slice_range}
use Rattle.octets.specs.Choice.{either}
use Rattle.book.specs.Sound.{differ}
use Rattle.book.specs.Book.{waits}

-- at a list's end nothing is left: what is said of the rest is said of the empty list (named by docs/PORT.md)
pub at_end_lem : {B : Type 0} (f : List ℕ → B) (s : List ℕ) (i : ℕ) → length s ≤ i → f (drop i s) ≡ f []
at_end_lem f s i h = rw (drop_of_length-le s {i = i} h)

swapped : (a b : ℕ) → eqb a b ≡ eqb b a
swapped a b = go (eqb b a) refl
  where
    go : (r : Bool) → r ≡ eqb b a → eqb a b ≡ r
    go true e = eq-eqb a b (sym (eqb-true b a (sym e)))
    go false e = ne_eqb a b (λ z. eqb-false b a (sym e) (sym z))

either_or : (a b : Bool) → (a || b) ≡ either a b
either_or true b = refl
either_or false b = refl

-- the places from i to n begin with i
next : (w : List ℕ) (i n : ℕ) → i < n → n ≤ length w → slice_range w i n ≡ get_or w i 0 ∷ slice_range w (i + 1) n
next w i n h m =
    let e : n - i ≡ suc (n - (i + 1)) = omega arith in
    let d : i + 1 ≡ suc i = omega arith in
    rw (e, d, drop-cons w i 0 (omega arith))

none : (w : List ℕ) (i n : ℕ) → n ≤ i → slice_range w i n ≡ []
none w i n h = let e : n - i ≡ 0 = omega arith in rw e

pub is_among : (w : List ℕ) (y i n k : ℕ) → n ≤ length w → n - i ≡ k → list_any (λ j. eqb (get_or w j 0) y) (range_with_len i k) ≡ waits y (slice_range w i n)
is_among w y i n zero m e = ap (waits y) (sym (none w i n (omega arith)))
is_among w y i n (suc k) m e =
    either_or (eqb (get_or w i 0) y) _
    ∙ ap (λ b. either b (list_any (λ j. eqb (get_or w j 0) y) (range_with_len (i + 1) k))) (swapped (get_or w i 0) y)
    ∙ ap (either (eqb y (get_or w i 0))) (is_among w y (i + 1) n k m (omega arith))
    ∙ ap (waits y) (sym (next w i n (omega arith) m))

-- ---- along the list: what is left of it answers as the whole

module _ (w : List ℕ) (i n : ℕ) {id : ℕ} {r : Bool} (m : n ≤ length w) (inv : differ (slice_range w i n) ≡ differ (take n w)) (h : i < n) (e : id ≡ get_or w i 0)
    (q : r ≡ waits id (slice_range w (i + 1) n)) where
  pub differ_stop : r ≡ true → false ≡ differ (take n w)
  differ_stop t =
      let a : waits (get_or w i 0) (slice_range w (i + 1) n) ≡ true = ap (λ v. waits v (slice_range w (i + 1) n)) (sym e) ∙ sym q ∙ t in
      let k : differ (slice_range w i n) ≡ false = ap differ (next w i n h m) ∙ rw a in
      sym k ∙ inv

  pub differ_on : r ≡ false → differ (slice_range w (i + 1) n) ≡ differ (take n w)
  differ_on t =
      let a : waits (get_or w i 0) (slice_range w (i + 1) n) ≡ false = ap (λ v. waits v (slice_range w (i + 1) n)) (sym e) ∙ sym q ∙ t in
      let k : differ (slice_range w i n) ≡ differ (slice_range w (i + 1) n) = ap differ (next w i n h m) ∙ rw a in
      sym k ∙ inv
