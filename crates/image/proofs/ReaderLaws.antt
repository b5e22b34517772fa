-- What was read of an image, as a field of its unit. Closed by the equations of `unit_of`.
use Prim.Native.Nat.{ℕ, ◌+◌, ◌*◌, ◌<◌, ◌≤◌}
use mathlib.Core.Path.{◌≡◌, refl, sym, ◌∙◌}
use mathlib.Core.List.{List}
use native.Mathlib.Omega.{arith}
use lib.ListN.{length, get_or, get_or-eq_default}
use Rattle.image.specs.Image.{two, waiting_in, unit_of}
use Rattle.image.proofs.StoreLaws.{id_in, waiting_eight}

pub waiting_of_lem : (s : List ℕ) → (unit_of s).waiting ≡ waiting_in s
unfolding unit_of
waiting_of_lem s = refl

pub eight_wait : (s : List ℕ) → length (unit_of s).waiting ≡ 8
unfolding unit_of
eight_wait s = waiting_eight s

pub id_at : (s : List ℕ) (i : ℕ) {r : ℕ} → i < 8 → r ≡ two s (32 + 2 * i) → r ≡ get_or (unit_of s).waiting i 0
unfolding unit_of
id_at s i h q = q ∙ id_in s i h

pub id_none : (s : List ℕ) (i : ℕ) → 8 ≤ i → 0 ≡ get_or (unit_of s).waiting i 0
id_none s i h = sym (get_or-eq_default (unit_of s).waiting 0 {n = i} (omega (arith, eight_wait s)))
