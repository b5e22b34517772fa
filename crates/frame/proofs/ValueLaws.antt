-- What a field holds: a type is one octet, a number two. Closed by cases.
use Rattle.std.specs.Prelude.{None, Option, Some}
use Prim.Native.Nat.{ℕ}
use native.Mathlib.Omega.{arith}
use mathlib.Core.List.{List, [], ◌∷◌}
use mathlib.Core.Path.{◌≡◌, refl, ap, ◌∙◌}
use lib.ListN.{length, get_or}
use Rattle.frame.specs.declared.Place.{Place}
use Rattle.frame.specs.Reading.{number}
use Rattle.frame.specs.Decoding.{held_at, octets_or, one_octet, two_octets, part_at}

one : (h : Option (List ℕ)) → length (octets_or h) ≡ 1 → Some (get_or (octets_or h) 0 0) ≡ one_octet h
one None e = absurd (omega arith)
one (Some []) e = absurd (omega arith)
one (Some (x ∷ [])) e = refl
one (Some (x ∷ y ∷ s)) e = absurd (omega arith)

not_one : (h : Option (List ℕ)) → (length (octets_or h) ≡ 1 → ⊥) → None ≡ one_octet h
not_one None e = refl
not_one (Some []) e = refl
not_one (Some (x ∷ [])) e = absurd (e refl)
not_one (Some (x ∷ y ∷ s)) e = refl

two : (h : Option (List ℕ)) → length (octets_or h) ≡ 2 → Some (number (octets_or h) 0) ≡ two_octets h
two None e = absurd (omega arith)
two (Some []) e = absurd (omega arith)
two (Some (x ∷ [])) e = absurd (omega arith)
two (Some (x ∷ y ∷ [])) e = refl
two (Some (x ∷ y ∷ z ∷ s)) e = absurd (omega arith)

not_two : (h : Option (List ℕ)) → (length (octets_or h) ≡ 2 → ⊥) → None ≡ two_octets h
not_two None e = refl
not_two (Some []) e = refl
not_two (Some (x ∷ [])) e = refl
not_two (Some (x ∷ y ∷ [])) e = absurd (e refl)
not_two (Some (x ∷ y ∷ z ∷ s)) e = refl

module _ (s : List ℕ) (f : Option Place) (o : List ℕ) (q : o ≡ part_at s f) where
  pub octet_one : length o ≡ 1 → Some (get_or o 0 0) ≡ one_octet (held_at s f)
  unfolding part_at
  octet_one e = rw q (one (held_at s f) (rw q at e))

  pub octet_none : (length o ≡ 1 → ⊥) → None ≡ one_octet (held_at s f)
  unfolding part_at
  octet_none e = not_one (held_at s f) (λ z. e (ap length q ∙ z))

  pub number_two : length o ≡ 2 → (x : ℕ) → x ≡ number o 0 → Some x ≡ two_octets (held_at s f)
  unfolding part_at
  number_two e x ex = rw (ex, q) (two (held_at s f) (rw q at e))

  pub number_none : (length o ≡ 2 → ⊥) → None ≡ two_octets (held_at s f)
  unfolding part_at
  number_none e = not_two (held_at s f) (λ z. e (ap length q ∙ z))
