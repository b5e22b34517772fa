-- A NUMBER IN DECIMAL IS THAT NUMBER: below 100,000 the digits that are said have its value. Closed by induction on how many digits there may be.
use Prim.Native.Nat.{ℕ, zero, suc, ◌+◌, ◌-◌, ◌*◌, ◌/◌, ◌<◌}
use mathlib.Core.Path.{◌≡◌, refl, sym, ◌∙◌}
use mathlib.Core.Bool.{Bool, true, false}
use mathlib.Core.List.{List, [], ◌∷◌, ◌++◌}
use native.Mathlib.Omega.{arith}
use borrow.Author.Tests.{ltb-true}
use lib.Dec.{ltb}
use Rattle.octets.specs.Choice.{pick}
use Rattle.phrases.specs.Spelling.{digit, decimal_in, decimal}

-- the value of decimal digits, v being that of the ones before them
abbrev pub value_from : ℕ → List ℕ → ℕ
value_from v [] = v
value_from v (c ∷ s) = value_from (10 * v + (c - 48)) s

value_more : (v : ℕ) (s : List ℕ) (c : ℕ) → value_from v (s ++ (c ∷ [])) ≡ 10 * value_from v s + (c - 48)
value_more v [] c = refl
value_more v (d ∷ s) c = value_more (10 * v + (d - 48)) s c

-- ten to the power of one digit more
abbrev pub limit : (more : ℕ) → ℕ
limit zero = 10
limit (suc k) = 10 * limit k

small : (n : ℕ) → n < 10 → value_from 0 (digit n ∷ []) ≡ n
small n h = omega arith

below : (k n : ℕ) → n < limit k → value_from 0 (decimal_in k n) ≡ n
unfolding decimal_in
below zero n h = small n h
below (suc k) n h = go (ltb n 10) refl (below k (n / 10))
  where
    go : (x : Bool) → x ≡ ltb n 10 → (n / 10 < limit k → value_from 0 (decimal_in k (n / 10)) ≡ n / 10)
        → value_from 0 (pick x (digit n ∷ []) (decimal_in k (n / 10) ++ (digit n ∷ []))) ≡ n
    go true e f = small n (ltb-true n 10 (sym e))
    go false e f =
        let g = f (omega arith) in
        value_more 0 (decimal_in k (n / 10)) (digit n) ∙ omega arith

pub right : (n : ℕ) → n < 100000 → value_from 0 (decimal n) ≡ n
right n h = below 4 n h
