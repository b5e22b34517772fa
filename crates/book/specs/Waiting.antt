-- The waiting list in its array (01: "waiting list as a fixed array by value in the unit, one place removed and the rest closed up").
-- No contract of unit's public functions speaks of this file, only those of state::waiting and of a held unit's `find`: a reader of 01 may skip it. Who waits
-- is said in Book.
use Rattle.std.specs.Prelude.{ℕ, suc, List, [], ◌∷◌, ◌++◌, take, drop, eqb, ltb, None, Option, Some}
use Rattle.octets.specs.Choice.{pick}

-- the place of the first x, counted from i
abbrev pub place_of : ℕ → ℕ → List ℕ → Option ℕ
place_of x i [] = None
place_of x i (y ∷ ys) = pick (eqb x y) (Some i) (place_of x (suc i) ys)

-- the place `at` taken out, the rest closed up, and a 0 at the end
unfoldable pub closed : List ℕ → ℕ → List ℕ
closed w at = pick (ltb at 8) (take at w ++ (drop (suc at) w ++ (0 ∷ []))) w
