-- Zeros by the library's words for a chain of iterators.
use Rattle.std.proofs.Common.{ℕ, ◌≡◌, ◌≤◌, ◌+◌, refl, ap, sym, Bool, true, false, List, [], ◌∷◌, ◌&&◌, ◌∙◌, arith, bit_or}
use borrow.Author.Tests.{eq-eqb, ne_eqb, eqb-true, eqb-false}
use lib.Dec.{eqb}
use lib.Bits.{or_add_and, and_le_l, and_le_r}
use Rattle.std.specs.List.{list_all, fold}
use Rattle.octets.specs.Choice.{both}
use Rattle.book.specs.Sound.{zeros}

both_and : (a b : Bool) → (a && b) ≡ both a b
both_and true b = refl
both_and false b = refl

pub zeros_all : (s : List ℕ) → list_all (λ x. eqb x 0) s ≡ zeros s
zeros_all [] = refl
zeros_all (x ∷ s) = both_and (eqb x 0) _ ∙ ap (both (eqb x 0)) (zeros_all s)

-- the bits of two octets in one: 0 only where both are
joined : (a b : ℕ) → eqb (bit_or a b) 0 ≡ both (eqb a 0) (eqb b 0)
joined a b = go (eqb a 0) refl (eqb b 0) refl
  where
    sizes : (a ≤ bit_or a b) × (b ≤ bit_or a b) × (bit_or a b ≤ a + b)
    sizes = let s = or_add_and a b in let l = and_le_l a b in let r = and_le_r a b in (omega arith, omega arith, omega arith)

    go : (p : Bool) → p ≡ eqb a 0 → (q : Bool) → q ≡ eqb b 0 → eqb (bit_or a b) 0 ≡ both (eqb a 0) (eqb b 0)
    go true u true v =
        let y = eqb-true a 0 (sym u) in
        let z = eqb-true b 0 (sym v) in
        rw (← u, ← v, eq-eqb (bit_or a b) 0 (omega (arith, sizes)))
    go true u false v = let z = eqb-false b 0 (sym v) in rw (← u, ← v, ne_eqb (bit_or a b) 0 (λ w. z (omega (arith, sizes))))
    go false u q v = let z = eqb-false a 0 (sym u) in rw (← u, ne_eqb (bit_or a b) 0 (λ w. z (omega (arith, sizes))))

assoc : (a b c : Bool) → both (both a b) c ≡ both a (both b c)
assoc true b c = refl
assoc false b c = refl

-- the bits so far are 0, and all that is left
from : (a : ℕ) (s : List ℕ) → eqb (fold bit_or a s) 0 ≡ both (eqb a 0) (zeros s)
from a [] = go (eqb a 0)
  where
    go : (b : Bool) → b ≡ both b true
    go true = refl
    go false = refl
from a (x ∷ s) = from (bit_or a x) s ∙ ap (λ b. both b (zeros s)) (joined a x) ∙ assoc (eqb a 0) (eqb x 0) (zeros s)

pub zeros_fold : (s : List ℕ) → eqb (fold bit_or 0 s) 0 ≡ zeros s
zeros_fold s = from 0 s
