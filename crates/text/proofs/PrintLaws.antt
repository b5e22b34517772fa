-- Laws of a printed line: its room, its length, and the loop that writes its digits. Closed by induction on the octets.
use Prim.Native.Nat.{ℕ, suc, ◌+◌, ◌*◌, ◌/◌, ◌%◌, ◌<◌, ◌≤◌}
use mathlib.Core.Path.{◌≡◌, refl, sym}
use mathlib.Core.Bool.{true, false}
use mathlib.Core.List.{List, [], ◌∷◌}
use native.Mathlib.Numerals.{add-one}
use native.Mathlib.Nat.{add-zero}
use native.Mathlib.Omega.{arith}
use borrow.Author.Tests.{leb-true}
use lib.ListN.{length, drop, get_or, set, length-append, drop_of_length-le}
use lib.Seq.{drop-cons, sets}
use Rattle.octets.proofs.Puts.{sets-append}
use Rattle.text.specs.Printing.{digit_of, digits_of, printed, fits, printed_in}

-- ---- room

pub fits_in : (room at n : ℕ) → fits room at n ≡ true → at + 2 * n < room
unfolding fits
fits_in room at n e = let h = leb-true (at + (2 * n + 1)) room e in omega arith

-- ---- the digits

pub digits_long : (s : List ℕ) → length (digits_of s) ≡ 2 * length s
unfolding digits_of
digits_long [] = refl
digits_long (x ∷ s) = let h = digits_long s in omega arith

-- what is left, put now, is what the whole is at the start
pub digits_step : (l : List ℕ) (p i : ℕ) (s : List ℕ) (a b : ℕ) → i < length s → a ≡ digit_of (get_or s i 0 / 16) → b ≡ digit_of (get_or s i 0 % 16)
    → sets (set (set l p a) (p + 1) b) (p + 2) (digits_of (drop (i + 1) s)) ≡ sets l p (digits_of (drop i s))
unfolding digits_of
digits_step l p i s a b h x y =
    let e : p + 2 ≡ suc (suc p) = omega arith in
    rw (e, x, y, add-one p, add-one i, drop-cons s i 0 h)

pub digits_end : (l : List ℕ) (p i : ℕ) (s : List ℕ) → length s ≤ i → sets l p (digits_of (drop i s)) ≡ l
unfolding digits_of
digits_end l p i s h = rw (drop_of_length-le s {i = i} h)

-- ---- the line

module _ (out line : List ℕ) (at : ℕ) where
  pub print_none : false ≡ fits (length out) at (length line)
      → (at ≡ at + length (printed_in (length out) at line)) × (out ≡ sets out at (printed_in (length out) at line))
  unfolding printed_in
  print_none e = (rw (← e) (sym (add-zero at)), rw (← e))

  pub print_all : (end : ℕ) (after : List ℕ) → true ≡ fits (length out) at (length line) → end ≡ at + 2 * length line → after ≡ sets out at (digits_of line)
      → (end + 1 ≡ at + length (printed_in (length out) at line)) × (set after end 10 ≡ sets out at (printed_in (length out) at line))
  unfolding printed_in printed
  print_all end after e p q =
      let k : at + length (digits_of line) ≡ end = omega (arith, digits_long line) in
      (rw (← e) (omega (arith, digits_long line, length-append (digits_of line) (10 ∷ []))), rw (← e, sets-append (digits_of line) (10 ∷ []) out at, k, ← q))
