-- WHAT A BLOCK SHOWS IS WHAT WAS READ: each field with its place and length or absent, the place after the fields, and the number of extension fields.
-- Closed by where the fields of a frame stand (frame, proofs/Places): no number is cut, and place 0 is no field's.
use Rattle.std.specs.Prelude.{Option, Ok}
use Prim.Native.Nat.{ℕ, ◌+◌, ◌*◌, ◌/◌, ◌%◌, ◌≤◌, ◌<◌}
use mathlib.Core.Path.{◌≡◌, refl, ap, sym, ◌∙◌}
use mathlib.Core.List.{List, [], ◌∷◌, ◌++◌}
use native.Mathlib.Omega.{arith}
use borrow.Author.Tests.{ne_eqb}
use lib.ListN.{length, get_or}
use lib.Seq.{get_or-drop, drop_at}
use Rattle.frame.specs.Encoding.{weight}
use Rattle.frame.specs.Reading.{octet, reading_of}
use Rattle.frame.specs.declared.Place.{Place}
use Rattle.frame.specs.declared.Header.{Header}
use Rattle.frame.specs.declared.Whole.{Whole}
use Rattle.frame.proofs.Inversion.{known}
use Rattle.frame.proofs.Places.{Stands, absent, there, placed, brief}
use Rattle.image.specs.Image.{two}
use Rattle.embed.specs.Fields.{pair, field_octets, block_of, field_in}
use Rattle.embed.proofs.FieldsLaws.{field_long}

-- ---- behind other octets

octet_behind : (a b : List ℕ) (k i : ℕ) → length a ≡ k → get_or (a ++ b) (k + i) 0 ≡ get_or b i 0
octet_behind a b k i e = sym (get_or-drop k (a ++ b) i 0) ∙ ap (λ l. get_or l i 0) (drop_at a b k e)

two_behind : (a b : List ℕ) (k i : ℕ) → length a ≡ k → two (a ++ b) (k + i) ≡ two b i
two_behind a b k i e =
    let p : k + i + 1 ≡ k + (i + 1) = omega arith in
    let x = octet_behind a b k i e in
    let y = ap (λ j. get_or (a ++ b) j 0) p ∙ octet_behind a b k (i + 1) e in
    rw (x, y)

field_behind : (a b : List ℕ) (k i : ℕ) → length a ≡ k → field_in (a ++ b) (k + i) ≡ field_in b i
unfolding field_in
field_behind a b k i e =
    let p : k + i + 2 ≡ k + (i + 2) = omega arith in
    let x = two_behind a b k i e in
    let y = ap (two (a ++ b)) p ∙ two_behind a b k (i + 2) e in
    rw (x, y)

-- ---- at the front

pair_back : (n : ℕ) → n ≤ 65535 → 256 * (n / 256 % 256) + n % 256 ≡ n
pair_back n h = omega arith

field_front : {s : List ℕ} {f : Option Place} (b : List ℕ) → length s ≤ 1024 → Stands s f → field_in (field_octets f ++ b) 0 ≡ f
unfolding field_in field_octets
field_front b h absent = refl
field_front b h (there start len low within) =
    let p = pair_back start (omega arith) in
    let q = pair_back len (omega arith) in
    let z : (start ≡ 0 → ⊥) = λ e. omega arith in
    rw (p, q, ne_eqb start 0 z)

-- ---- the block

module _ (s : List ℕ) (small : (i : ℕ) → octet s i < 256) (v : Whole) (e : reading_of s ≡ Ok v) where
  abbrev h : Header
  h = v.header

  abbrev n : ℕ
  n = v.extensions

  abbrev t₁ : List ℕ
  t₁ = field_octets h.message_type

  abbrev t₂ : List ℕ
  t₂ = field_octets h.identifier

  abbrev t₃ : List ℕ
  t₃ = field_octets h.reference

  abbrev t₄ : List ℕ
  t₄ = field_octets h.sender

  abbrev t₅ : List ℕ
  t₅ = field_octets h.user_data

  abbrev head : List ℕ
  head = weight h.multi_shot 1 ∷ h.confirmation ∷ []

  abbrev r₆ : List ℕ
  r₆ = pair h.end ++ pair n

  abbrev r₅ : List ℕ
  r₅ = t₅ ++ r₆

  abbrev r₄ : List ℕ
  r₄ = t₄ ++ r₅

  abbrev r₃ : List ℕ
  r₃ = t₃ ++ r₄

  abbrev r₂ : List ℕ
  r₂ = t₂ ++ r₃

  abbrev r₁ : List ℕ
  r₁ = t₁ ++ r₂

  short : length s ≤ 1024
  short = brief s v e

  pub type_back : field_in (block_of h n) 2 ≡ h.message_type
  unfolding block_of
  type_back = field_behind head r₁ 2 0 refl ∙ field_front r₂ short (placed s v e).type

  pub identifier_back : field_in (block_of h n) 6 ≡ h.identifier
  unfolding block_of
  identifier_back = field_behind head r₁ 2 4 refl ∙ field_behind t₁ r₂ 4 0 (field_long _) ∙ field_front r₃ short (placed s v e).identifier

  pub reference_back : field_in (block_of h n) 10 ≡ h.reference
  unfolding block_of
  reference_back =
      field_behind head r₁ 2 8 refl ∙ field_behind t₁ r₂ 4 4 (field_long _) ∙ field_behind t₂ r₃ 4 0 (field_long _)
      ∙ field_front r₄ short (placed s v e).reference

  pub sender_back : field_in (block_of h n) 14 ≡ h.sender
  unfolding block_of
  sender_back =
      field_behind head r₁ 2 12 refl ∙ field_behind t₁ r₂ 4 8 (field_long _) ∙ field_behind t₂ r₃ 4 4 (field_long _)
      ∙ field_behind t₃ r₄ 4 0 (field_long _) ∙ field_front r₅ short (placed s v e).sender

  pub data_back : field_in (block_of h n) 18 ≡ h.user_data
  unfolding block_of
  data_back =
      field_behind head r₁ 2 16 refl ∙ field_behind t₁ r₂ 4 12 (field_long _) ∙ field_behind t₂ r₃ 4 8 (field_long _)
      ∙ field_behind t₃ r₄ 4 4 (field_long _) ∙ field_behind t₄ r₅ 4 0 (field_long _) ∙ field_front r₆ short (placed s v e).user_data

  further : (f : Option Place) (r : List ℕ) (i j : ℕ) → 4 + i ≡ j → two (field_octets f ++ r) j ≡ two r i
  further f r i j q = ap (two (field_octets f ++ r)) (sym q) ∙ two_behind (field_octets f) r 4 i (field_long f)

  rest_back : (i : ℕ) → two (head ++ r₁) (22 + i) ≡ two r₆ i
  rest_back i =
      let q : 22 + i ≡ 2 + (20 + i) = omega arith in
      ap (two (head ++ r₁)) q ∙ two_behind head r₁ 2 (20 + i) refl
      ∙ further h.message_type r₂ (16 + i) (20 + i) (omega arith) ∙ further h.identifier r₃ (12 + i) (16 + i) (omega arith)
      ∙ further h.reference r₄ (8 + i) (12 + i) (omega arith) ∙ further h.sender r₅ (4 + i) (8 + i) (omega arith)
      ∙ further h.user_data r₆ i (4 + i) refl

  pub end_back : two (block_of h n) 22 ≡ h.end
  unfolding block_of
  end_back = rest_back 0 ∙ pair_back h.end (omega (arith, (known s small v e).short))

  pub extensions_back : two (block_of h n) 24 ≡ n
  unfolding block_of
  extensions_back = rest_back 2 ∙ pair_back n (omega (arith, (known s small v e).few))
