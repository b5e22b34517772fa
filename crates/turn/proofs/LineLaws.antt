-- A note, stored octet by octet. Closed by `then` of Puts.
use Prim.Native.Nat.{ℕ, ◌+◌, ◌≤◌, ◌/◌, ◌%◌}
use mathlib.Core.Path.{◌≡◌, sym, ◌∙◌}
use mathlib.Core.List.{List, [], ◌∷◌}
use lib.ListN.{length}
use Rattle.octets.specs.Put.{Put}
use Rattle.octets.proofs.Puts.{then, put_as}
use Rattle.frame.specs.Encoding.{weight}
use Rattle.std.specs.Prelude.{None, Some}
use Rattle.said.specs.declared.Note.{Note}
use Rattle.said.specs.Notes.{note_octets}
use Rattle.said.proofs.PenLaws.{note_is}

-- a note: the flags and the confirmation, the type where there is one, then reference and sender
module _ (n : Note) (name : List ℕ) (shot : ℕ) (h : 2 ≤ n.confirmation) (l : n.confirmation ≤ 4) (m : length name ≤ 32)
    (f : shot ≡ weight n.multi_shot 1) {b b1 a : List ℕ} {i j r : ℕ} where
  pub plain_put : n.message_type ≡ None → Put b i ((24 + shot) ∷ n.confirmation ∷ []) b1 j
      → Put b1 j (n.reference / 256 ∷ n.reference % 256 ∷ length name ∷ name) a r → Put b i (note_octets n name) a r
  plain_put z p q = put_as (rw f (sym (note_is n name h l ∙ rw z))) (then p q)

  pub typed_put : {t : ℕ} → n.message_type ≡ Some t → Put b i ((88 + shot) ∷ n.confirmation ∷ t ∷ []) b1 j
      → Put b1 j (n.reference / 256 ∷ n.reference % 256 ∷ length name ∷ name) a r → Put b i (note_octets n name) a r
  typed_put z p q = put_as (rw f (sym (note_is n name h l ∙ rw z))) (then p q)
