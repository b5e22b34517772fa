-- The octets of a number, and of eight.
use Rattle.std.specs.Prelude.{flat_map}
use Rattle.std.specs.Int.{w16, to_be_bytes}
use Prim.Native.Nat.{ℕ, ◌/◌, ◌%◌, ◌<◌}
use mathlib.Core.Path.{◌≡◌, ap, ◌∙◌}
use mathlib.Core.List.{List, [], ◌∷◌}
use native.Mathlib.Omega.{arith}
use lib.ListN.{get_or}
use Rattle.image.specs.Image.{waiting_octets}

pub pair_of : {r : List ℕ} {x : ℕ} → x < 65536 → r ≡ to_be_bytes w16 x → r ≡ x / 256 ∷ x % 256 ∷ []
pair_of {x = x} h e = let q : x / 256 % 256 ≡ x / 256 = omega arith in e ∙ ap (λ y. y ∷ x % 256 ∷ []) q

pub high : {r : List ℕ} {x : ℕ} → x < 65536 → r ≡ to_be_bytes w16 x → get_or r 0 0 ≡ x / 256
high h e = ap (λ l. get_or l 0 0) (pair_of h e)

pub low : {r : List ℕ} {x : ℕ} → x < 65536 → r ≡ to_be_bytes w16 x → get_or r 1 0 ≡ x % 256
low h e = ap (λ l. get_or l 1 0) (pair_of h e)

pub ids_are : (w : List ℕ) {a b c d e f g h : List ℕ} {r : List ℕ} → r ≡ flat_map (λ (x : List ℕ). x) (a ∷ b ∷ c ∷ d ∷ e ∷ f ∷ g ∷ h ∷ [])
    → a ≡ get_or w 0 0 / 256 ∷ get_or w 0 0 % 256 ∷ [] → b ≡ get_or w 1 0 / 256 ∷ get_or w 1 0 % 256 ∷ []
    → c ≡ get_or w 2 0 / 256 ∷ get_or w 2 0 % 256 ∷ [] → d ≡ get_or w 3 0 / 256 ∷ get_or w 3 0 % 256 ∷ []
    → e ≡ get_or w 4 0 / 256 ∷ get_or w 4 0 % 256 ∷ [] → f ≡ get_or w 5 0 / 256 ∷ get_or w 5 0 % 256 ∷ []
    → g ≡ get_or w 6 0 / 256 ∷ get_or w 6 0 % 256 ∷ [] → h ≡ get_or w 7 0 / 256 ∷ get_or w 7 0 % 256 ∷ [] → r ≡ waiting_octets w
unfolding waiting_octets
ids_are w q k₀ k₁ k₂ k₃ k₄ k₅ k₆ k₇ = q ∙ rw (k₀, k₁, k₂, k₃, k₄, k₅, k₆, k₇)
