-- Octets and the rule book's messages: what a frame's octets are read as, and the octets of a frame that is written.
use Rattle.std.specs.Prelude.{ℕ, zero, suc, List, None, Option, Some}
use Rattle.frame.specs.declared.Header.{Header}
use Rattle.frame.specs.Message.{Message}
use Rattle.frame.specs.Encoding.{encode}
use Rattle.frame.specs.Decoding.{Decoded, valid, fault, decode, octets_or, message_at}
use Rattle.book.specs.Book.{Body, Msg, plain, sure, Kind, ok, not_ok, unknown, Frame, msg, note, Reading, bad, good}

-- ---- from a message

-- the value of a field that the confirmation needs: the reader has seen to it that it is there
abbrev pub needed : Option ℕ → ℕ
needed None = 0
needed (Some n) = n

abbrev pub body_in : Message → Body
body_in m = record { maintained = m.multi_shot; type = m.message_type; user_data = m.user_data }

-- by its confirmation: "0 unconfirmedReq, 1 confirmedReq, 2 confirmedOk, 3 confirmedNotOk, 4 confirmedUnknown"
abbrev pub viewed_as : (confirmation : ℕ) → Message → Frame
viewed_as zero m = msg (plain m.message_identifier m.message_reference m.sender (body_in m))
viewed_as (suc zero) m = msg (sure (needed m.message_identifier) m.message_reference m.sender (body_in m))
viewed_as (suc (suc zero)) m = note ok (needed m.message_reference) m.message_identifier (octets_or m.sender) (body_in m)
viewed_as (suc (suc (suc zero))) m = note not_ok (needed m.message_reference) m.message_identifier (octets_or m.sender) (body_in m)
viewed_as (suc (suc (suc (suc n)))) m = note unknown (needed m.message_reference) m.message_identifier (octets_or m.sender) (body_in m)

unfoldable pub viewed : Message → Frame
viewed m = viewed_as m.confirmation m

-- the frame that a header points at
abbrev pub frame_at : List ℕ → Header → Frame
frame_at s h = viewed (message_at s h)

abbrev pub heard : Decoded → Reading
heard (valid m n) = good (viewed m) n
heard (fault n) = bad n

-- octets read as a frame
unfoldable pub reading_in : List ℕ → Reading
reading_in s = heard (decode s)

-- ---- to a message

abbrev pub message_with : (confirmation : ℕ) (id ref : Option ℕ) (sender : Option (List ℕ)) → Body → Message
message_with c i r q b = record {
  multi_shot = b.maintained;
  confirmation = c;
  message_type = b.type;
  message_identifier = i;
  message_reference = r;
  sender = q;
  user_data = b.user_data;
}

abbrev pub kind_number : Kind → ℕ
kind_number ok = 2
kind_number not_ok = 3
kind_number unknown = 4

-- and back: a confirmation's kind by its number, 2 to 4 (of a message's, 0 and 1, any)
abbrev pub kind_for : ℕ → Kind
kind_for zero = ok
kind_for (suc zero) = ok
kind_for (suc (suc zero)) = ok
kind_for (suc (suc (suc zero))) = not_ok
kind_for (suc (suc (suc (suc n)))) = unknown

unfoldable pub msg_message : Msg → Message
msg_message (plain i r q b) = message_with 0 i r q b
msg_message (sure i r q b) = message_with 1 (Some i) r q b

unfoldable pub frame_message : Frame → Message
unfolding msg_message
frame_message (msg m) = msg_message m
frame_message (note k r i q b) = message_with (kind_number k) i (Some r) (Some q) b

-- the edition 1 frame
unfoldable pub msg_octets : Msg → List ℕ
msg_octets m = encode (msg_message m)

unfoldable pub frame_octets : Frame → List ℕ
frame_octets f = encode (frame_message f)
