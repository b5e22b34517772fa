-- What a frame says: the values where its fields stand.
use Rattle.std.specs.Prelude.{ℕ, ◌+◌, ◌*◌, List, [], ◌∷◌, take, drop, None, Option, Some, Result, Ok, Err}
use Rattle.octets.specs.Choice.{pick}
use Rattle.frame.specs.Message.{Message}
use Rattle.frame.specs.Faults.{fault_number}
use Rattle.frame.specs.Reading.{room, reading_of}
use Rattle.frame.specs.declared.Fault.{Fault}
use Rattle.frame.specs.declared.Header.{Header}
use Rattle.frame.specs.declared.Place.{Place}
use Rattle.frame.specs.declared.Whole.{Whole}

-- The octets of a field: none of an absent one, nor of one that does not lie within the frame.
unfoldable pub held_at : List ℕ → Option Place → Option (List ℕ)
held_at s None = None
held_at s (Some p) = pick (room s p.start p.len) (Some (take p.len (drop p.start s))) None

-- a type is one octet, an identifier or a reference two; anything else is none
abbrev pub one_octet : Option (List ℕ) → Option ℕ
one_octet None = None
one_octet (Some []) = None
one_octet (Some (x ∷ [])) = Some x
one_octet (Some (x ∷ y ∷ s)) = None

abbrev pub two_octets : Option (List ℕ) → Option ℕ
two_octets None = None
two_octets (Some []) = None
two_octets (Some (x ∷ [])) = None
two_octets (Some (x ∷ y ∷ [])) = Some (x * 256 + y)
two_octets (Some (x ∷ y ∷ z ∷ s)) = None

-- what a header says of a frame
unfoldable pub message_at : List ℕ → Header → Message
message_at s h = record {
  multi_shot = h.multi_shot;
  confirmation = h.confirmation;
  message_type = one_octet (held_at s h.message_type);
  message_identifier = two_octets (held_at s h.identifier);
  message_reference = two_octets (held_at s h.reference);
  sender = held_at s h.sender;
  user_data = held_at s h.user_data;
}

-- A frame's octets as a message with the number of its extension fields, or the first fault.
pub data Decoded : Type 0 where
  valid : Message → (extensions : ℕ) → Decoded
  fault : (number : ℕ) → Decoded

-- each case of the reader's answer, in 01's numbers and values
abbrev pub shown : List ℕ → Result Whole Fault → Decoded
shown s (Ok w) = valid (message_at s w.header) w.extensions
shown s (Err f) = fault (fault_number f)

unfoldable pub decode : List ℕ → Decoded
decode s = shown s (reading_of s)

-- the octets of a field as a part of the frame: the empty part where there are none
abbrev pub octets_or : Option (List ℕ) → List ℕ
octets_or None = []
octets_or (Some s) = s

unfoldable pub part_at : List ℕ → Option Place → List ℕ
part_at s p = octets_or (held_at s p)
