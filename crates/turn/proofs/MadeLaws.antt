-- A new unit, laid as its image. Closed by `written` of ImageLaws, and what is read back.
use Prim.Native.Nat.{ℕ, ◌/◌, ◌%◌, ◌<◌, ◌≤◌}
use mathlib.Core.Path.{◌≡◌, refl, ap, ◌∙◌}
use mathlib.Core.List.{List, [], ◌∷◌}
use native.Mathlib.Omega.{arith}
use lib.ListN.{length, replicate, length-replicate}
use lib.Seq.{sets}
use Rattle.turn_laws.specs.Moves.{made}
use Rattle.image.specs.Image.{waiting_octets, rest_octets, unit_of}
use Rattle.image.proofs.ImageLaws.{written, cut_within}
use Rattle.image.proofs.RoundTrip.{fitting_back}

pub rest_is : (start end inactivity letters : ℕ) {a b c d e f : ℕ} → a ≡ start / 256 → b ≡ start % 256 → c ≡ end / 256 → d ≡ end % 256 → e ≡ inactivity / 256
    → f ≡ inactivity % 256 → letters < 256
    → 0 ∷ a ∷ b ∷ c ∷ d ∷ e ∷ f ∷ 0 ∷ 0 ∷ 0 ∷ 0 ∷ 0 ∷ letters ∷ 0 ∷ 0 ∷ 0 ∷ [] ≡ rest_octets (made start end inactivity [] letters)
unfolding rest_octets
rest_is start end inactivity letters p q r s t u h = rw (p, q, r, s, t, u, ← cut_within 255 letters (omega arith), ← cut_within 255 0 (omega arith), ← cut_within 65535 0 (omega arith))

blank-list : replicate {A = ℕ} 16 0 ≡ waiting_octets (replicate 8 0)
unfolding waiting_octets
blank-list = refl

same_rest : (start end inactivity letters : ℕ) (name : List ℕ) → rest_octets (made start end inactivity [] letters) ≡ rest_octets (made start end inactivity name letters)
unfolding rest_octets
same_rest start end inactivity letters name = refl

pub laid_is : (start end inactivity letters : ℕ) (name s rest x y z r : List ℕ) → length s ≡ 618 → length name ≡ 32 → rest ≡ rest_octets (made start end inactivity [] letters)
    → x ≡ sets s 0 name → y ≡ sets x 32 (replicate 16 0) → z ≡ sets y 48 (replicate 554 0) → r ≡ sets z 602 rest → letters ≤ 32
    → unit_of r ≡ made start end inactivity name letters
laid_is start end inactivity letters name s rest x y z r e n q hx hy hz hr h =
    ap unit_of (written (made start end inactivity name letters) s (replicate 16 0) rest x y z r e n (length-replicate {A = ℕ} 554 0) blank-list
    (q ∙ same_rest start end inactivity letters name) hx hy hz hr)
    ∙ fitting_back (made start end inactivity name letters) n (length-replicate {A = ℕ} 8 0) (length-replicate {A = ℕ} 554 0) (omega arith) (omega arith) (omega arith)
