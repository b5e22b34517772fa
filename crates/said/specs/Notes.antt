-- The confirmations that the unit makes itself: acknowledgements and local answers.
-- No public contract speaks of this file, only contracts of functions inside a crate: a reader of 01 may skip it.
use Rattle.std.specs.Prelude.{ℕ, List, ◌∷◌, ◌≡◌, None}
use Rattle.frame.specs.declared.Header.{Header}
use Rattle.frame.specs.Decoding.{message_at}
use Rattle.book.specs.View.{needed, frame_octets, kind_for}
use Rattle.book.specs.Book.{Frame, note}
use Rattle.said.specs.declared.Note.{Note}
use Rattle.said.specs.declared.Say.{Say}

-- confirmation, reference, multiShot bit and type as the note says; the unit's name as sender; nothing else
abbrev pub note_frame : Note → (name : List ℕ) → Frame
note_frame n name =
    note (kind_for n.confirmation) n.reference None name
    (record { maintained = n.multi_shot; type = n.message_type; user_data = None })

unfoldable pub note_octets : Note → (name : List ℕ) → List ℕ
note_octets n name = frame_octets (note_frame n name)

-- line 22 with an answer made locally
abbrev pub answer_line : Say → (name : List ℕ) → (id : ℕ) → List ℕ
answer_line say name id =
    0x22 ∷ say.result ∷ note_octets (record { multi_shot = say.multi_shot; confirmation = say.confirmation; message_type = None; reference = id }) name

-- the acknowledgement of the confirmed message of a frame
pub record AckOf (s : List ℕ) (h : Header) (n : Note) : Type 0 where
  pub shot : n.multi_shot ≡ (message_at s h).multi_shot
  pub type : n.message_type ≡ (message_at s h).message_type
  pub reference : n.reference ≡ needed (message_at s h).message_identifier
  pub confirmation : n.confirmation ≡ 2
