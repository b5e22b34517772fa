-- The frame without extensions: its length, and when it is the frame itself. Closed by `rw` with the tests.
use Prim.Native.Nat.{ℕ, ◌-◌, ◌%◌, ◌≤◌}
use native.Mathlib.Omega.{arith}
use mathlib.Core.List.{List, [], ◌∷◌}
use mathlib.Core.Path.{◌≡◌, ◌∙◌}
use lib.ListN.{length, take, drop, length-drop}
use lib.Seq.{take_all, length-take-le}
use borrow.Author.Tests.{le-leb}
use Rattle.frame.specs.Reading.{octet}
use Rattle.frame.specs.Stripping.{bare_to}

module _ (s : List ℕ) (e : ℕ) where
  pub bare_is : 1 ≤ e → e ≤ length s → bare_to s e ≡ octet s 0 % 128 ∷ take (e - 1) (drop 1 s)
  unfolding bare_to
  bare_is h l = rw (le-leb 1 e h, le-leb e (length s) l)

  pub bare-length : 1 ≤ e → e ≤ length s → length (bare_to s e) ≡ e
  bare-length h l = rw (bare_is h l) (omega (arith, length-take-le (e - 1) (drop 1 s) (omega (arith, length-drop 1 s))))

-- bit 7 clear and nothing behind the fields: the frame itself
same_octets : (s : List ℕ) (e : ℕ) → 1 ≤ length s → length s ≤ e → octet s 0 % 128 ≡ octet s 0 → octet s 0 % 128 ∷ take (e - 1) (drop 1 s) ≡ s
same_octets [] e h l q = absurd (omega arith)
same_octets (x ∷ s) e h l q = simp (q, take_all (e - 1) s (omega arith))

pub bare_same : (s : List ℕ) (e : ℕ) → 1 ≤ e → e ≤ length s → length s ≤ e → octet s 0 % 128 ≡ octet s 0 → bare_to s e ≡ s
bare_same s e h w l q = bare_is s e h w ∙ same_octets s e (omega arith) l q
