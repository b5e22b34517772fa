-- What is printed is read back: the digits of octets are a line whose event is those octets. Closed by induction on the octets.
use Rattle.std.specs.Prelude.{Some}
use Prim.Native.Nat.{ℕ, suc, ◌+◌, ◌-◌, ◌*◌, ◌/◌, ◌%◌, ◌<◌, ◌≤◌}
use mathlib.Core.Path.{◌≡◌, refl, sym}
use mathlib.Core.Bool.{Bool, true, false}
use mathlib.Core.List.{List, [], ◌∷◌}
use native.Mathlib.Omega.{arith}
use borrow.Author.Tests.{eq-eqb, le-leb, lt-leb, lt-ltb, ltb-true, ltb-false}
use Rattle.octets.specs.Choice.{pick}
use lib.Dec.{ltb}
use lib.ListN.{length, get_or}
use Rattle.text.specs.Digits.{value_of}
use Rattle.text.specs.Reading.{leading, event_in}
use Rattle.text.specs.Printing.{digit_of, digits_of}
use Rattle.text.proofs.PrintLaws.{digits_long}

value_digit : (v : ℕ) → v < 16 → value_of (digit_of v) ≡ Some v
unfolding value_of digit_of
value_digit v h = go (ltb v 10) refl
  where
    go : (t : Bool) → t ≡ ltb v 10 → value_of (pick t (48 + v) (87 + v)) ≡ Some v
    go true e =
        let l = ltb-true v 10 (sym e) in
        let z : 48 + v - 48 ≡ v = omega arith in
        rw (le-leb 48 (48 + v) (omega arith), le-leb (48 + v) 57 (omega arith), z)
    go false e =
        let l = ltb-false v 10 (sym e) in
        let z : 87 + v - 87 ≡ v = omega arith in
        rw (le-leb 48 (87 + v) (omega arith), lt-leb (87 + v) 57 (omega arith), le-leb 97 (87 + v) (omega arith), le-leb (87 + v) 102 (omega arith), z)

pub leading_digits : (xs : List ℕ) → ((i : ℕ) → get_or xs i 0 < 256) → leading (digits_of xs) ≡ xs
unfolding leading digits_of
leading_digits [] h = refl
leading_digits (x ∷ xs) h =
    let s = h 0 in
    let a : x / 16 < 16 = omega arith in
    let b : x % 16 < 16 = omega arith in
    let e : 16 * (x / 16) + x % 16 ≡ x = omega arith in
    rw (value_digit (x / 16) a, value_digit (x % 16) b, e, leading_digits xs (λ i. h (suc i)))

pub reads_back : (xs : List ℕ) → ((i : ℕ) → get_or xs i 0 < 256) → 0 < length xs → length xs ≤ 2048 → event_in (digits_of xs) ≡ Some xs
unfolding event_in
reads_back xs h n m =
    rw (
      leading_digits xs h,
      digits_long xs,
      lt-ltb 0 (2 * length xs) (omega arith),
      le-leb (2 * length xs) 4096 (omega arith),
      eq-eqb (2 * length xs) (2 * length xs) refl,
    )
