-- Writing a frame (01, "The message frame").
-- "The writer refuses with 6, then 13 (confirmation above 4), 15, 14, and otherwise writes an edition 1 frame."
use Rattle.std.specs.Prelude.{ℕ, ◌≤◌, List, Bool, false, ◌≡◌, length, ltb, eqb, None, Option, Some, Result, Ok, Err}
use Rattle.std.specs.Option.{option_copied}
use Rattle.std.specs.Bool.{⊤}
use Rattle.std.proofs.lemmas.List.Edits.{sets}
use Rattle.octets.specs.Choice.{pick, either}
use Rattle.octets.specs.Put.{Put}
use Rattle.frame.specs.Message.{Message, present, lacks}
use Rattle.frame.specs.Encoding.{sender_octets, data_octets}
use Rattle.frame.specs.declared.Fault.TheVariants.{BadOctet, BadLength, Lacking}
use Rattle.frame.specs.declared.Parts.{Parts}
use Rattle.frame.specs.declared.Refusal.{Refusal}
use Rattle.frame.specs.declared.Refusal.TheVariants.{NoRoom, Faulty}

-- ---- what the writer is given

-- the parts: the octets of sender and user data are lent
abbrev pub message_of : Parts → Message
message_of p = record {
  multi_shot = p.multi_shot;
  confirmation = p.confirmation;
  message_type = p.message_type;
  message_identifier = p.identifier;
  message_reference = p.reference;
  sender = option_copied p.sender;
  user_data = option_copied p.user_data;
}

-- ---- what it refuses

-- "sender, a length octet 1..32"
unfoldable pub wrong_sender : Option (List ℕ) → Bool
wrong_sender None = false
wrong_sender (Some s) = either (eqb (length s) 0) (ltb 32 (length s))

-- "userData, a 2-octet length 0..512"
unfoldable pub wrong_data : Option (List ℕ) → Bool
wrong_data None = false
wrong_data (Some s) = ltb 512 (length s)

-- 13, 15, 14: what 01 does not allow of a message
unfoldable pub fault_in : Message → Option Refusal
fault_in m =
    pick (ltb 4 m.confirmation) (Some (Faulty BadOctet))
    (pick (lacks m.confirmation (present m.message_identifier) (present m.message_reference) (present m.sender)) (Some (Faulty Lacking))
    (pick (either (wrong_sender m.sender) (wrong_data m.user_data)) (Some (Faulty BadLength))
    None))

-- a message that 01 allows
abbrev pub Allowed : Message → Type 0
Allowed m = fault_in m ≡ None

-- "6, then 13 (confirmation above 4), 15, 14"
unfoldable pub refusal_of : (room : ℕ) → Message → Option Refusal
refusal_of room m = pick (ltb room 1024) (Some NoRoom) (fault_in m)

-- ---- the answer, and the whole buffer afterwards: the frame and behind it the octets that were there, or all as it was

abbrev pub answered : Option Refusal → (frame : List ℕ) → Result ℕ Refusal
answered None frame = Ok (length frame)
answered (Some r) frame = Err r

abbrev pub left : Option Refusal → (frame before : List ℕ) → List ℕ
left None frame before = sets before 0 frame
left (Some r) frame before = before

-- a call that refuses with `refusal`, or writes `frame` at the front of the buffer
pub record Wrote (refusal : Option Refusal) (frame before after : List ℕ) (r : Result ℕ Refusal) : Type 0 where
  pub answers : r ≡ answered refusal frame
  pub leaves : after ≡ left refusal frame before

-- ---- inside the writer

-- a field's writer put the octets e at the front of what it was lent, at most `most` of them, and answers their number
pub record PutField (e : List ℕ) (most : ℕ) (before after : List ℕ) (r : ℕ) : Type 0 where
  pub put : Put before 0 e after r
  pub small : r ≤ most

abbrev pub check_of : Option Refusal → Result ⊤ Refusal
check_of None = Ok tt
check_of (Some r) = Err r

-- what the writer has made sure of before it writes
pub record Room (m : Message) (buffer : List ℕ) : Type 0 where
  pub room : 1024 ≤ length buffer
  pub sender_fits : length (sender_octets m.sender) ≤ 33
  pub data_fits : length (data_octets m.user_data) ≤ 514
