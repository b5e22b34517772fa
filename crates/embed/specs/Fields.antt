-- A FRAME FOR PROGRAMS IN C OR RUST: what the reader answers as a block of 26 octets, and what the writer is given as numbers.
-- The block: multiShot 0, confirmation 1; type 2, identifier 6, reference 10, sender 14, user data 18, of each the place in the frame and the length
-- (2 octets each); the place after the fields 22, how many extension fields follow 24 (2 each). Numbers are big-endian.
use Rattle.std.specs.Prelude.{ℕ, ◌+◌, ◌/◌, ◌%◌, ◌≡◌, List, [], ◌∷◌, ◌++◌, length, ltb, eqb, None, Option, Some, Result, Ok, Err}
use Rattle.std.specs.Bool.{then_some}
use Rattle.std.proofs.lemmas.List.Edits.{sets}
use Rattle.octets.specs.Choice.{pick, either}
use Rattle.frame.specs.Message.{Message}
use Rattle.frame.specs.Encoding.{weight, encode}
use Rattle.frame.specs.Faults.{fault_number, refusal_number}
use Rattle.frame.specs.Reading.{at_place, bit, reading_of}
use Rattle.frame.specs.Writing.{fault_in, answered, left}
use Rattle.frame.specs.declared.Fault.{Fault}
use Rattle.frame.specs.declared.Fault.TheVariants.{BadOctet}
use Rattle.frame.specs.declared.Header.{Header}
use Rattle.frame.specs.declared.Place.{Place}
use Rattle.frame.specs.declared.Refusal.{Refusal}
use Rattle.frame.specs.declared.Refusal.TheVariants.{NoRoom, Faulty}
use Rattle.frame.specs.declared.Whole.{Whole}
use Rattle.image.specs.Image.{two}
use Rattle.embed.specs.Answer.{refused}

-- ---- reading

-- A place or a length, of which two octets have room: none that the reader gives is above 1,024 (proofs/BlockBack).
abbrev pub pair : ℕ → List ℕ
pair n = (n / 256 % 256) ∷ (n % 256) ∷ []

-- An absent field has place 0, where no field stands.
unfoldable pub field_octets : Option Place → List ℕ
field_octets None = 0 ∷ 0 ∷ 0 ∷ 0 ∷ []
field_octets (Some p) = pair p.start ++ pair p.len

unfoldable pub block_of : Header → (extensions : ℕ) → List ℕ
block_of h n =
    (weight h.multi_shot 1 ∷ h.confirmation ∷ [])
    ++ (field_octets h.message_type
    ++ (field_octets h.identifier
    ++ (field_octets h.reference
    ++ (field_octets h.sender
    ++ (field_octets h.user_data
    ++ (pair h.end ++ pair n))))))

-- the field that a block shows from the place i on
unfoldable pub field_in : (block : List ℕ) (i : ℕ) → Option Place
field_in block i = pick (eqb (two block i) 0) None (at_place (two block i) (two block (i + 2)))

-- "A reader gives either the whole message or the fault": the block, or the fault's number and nothing written
unfoldable pub read_number : Result Whole Fault → ℕ
read_number (Ok w) = 0
read_number (Err f) = refused (fault_number f)

unfoldable pub block_after : (before : List ℕ) → Result Whole Fault → List ℕ
block_after before (Ok w) = sets before 0 (block_of w.header w.extensions)
block_after before (Err f) = before

-- what `stelquorum_read` answers, and the whole lent block: 6 where it has fewer than 26 octets
pub record Reads (frame before : List ℕ) (r : ℕ) (after : List ℕ) : Type 0 where
  pub number : r ≡ pick (ltb (length before) 26) (refused (refusal_number NoRoom)) (read_number (reading_of frame))
  pub block : after ≡ pick (ltb (length before) 26) before (block_after before (reading_of frame))

-- ---- writing

-- The message that the writer is given: which fields are present as in octet 0 of a frame, their values beside it.
unfoldable pub message_in : (flags confirmation type identifier reference : ℕ) → (sender user : List ℕ) → Message
message_in flags confirmation type identifier reference sender user = record {
  multi_shot = bit flags 1;
  confirmation = confirmation;
  message_type = then_some (bit flags 64) type;
  message_identifier = then_some (bit flags 32) identifier;
  message_reference = then_some (bit flags 16) reference;
  sender = then_some (bit flags 8) sender;
  user_data = then_some (bit flags 4) user;
}

-- "6, then 13 (confirmation above 4), 15, 14"; bits 7 and 1, which edition 1 sets in no frame, are 13 too
unfoldable pub write_refusal : (room flags : ℕ) → Message → Option Refusal
write_refusal room flags m =
    pick (ltb room 1024) (Some NoRoom) (pick (either (bit flags 128) (bit flags 2)) (Some (Faulty BadOctet)) (fault_in m))

-- how many octets were written, or the refusal's number
unfoldable pub write_number : Result ℕ Refusal → ℕ
write_number (Ok n) = n
write_number (Err r) = refused (refusal_number r)

-- what `stelquorum_write` answers, and the whole lent buffer
pub record Writes (flags : ℕ) (m : Message) (before : List ℕ) (r : ℕ) (after : List ℕ) : Type 0 where
  pub number : r ≡ write_number (answered (write_refusal (length before) flags m) (encode m))
  pub buffer : after ≡ left (write_refusal (length before) flags m) (encode m) before
