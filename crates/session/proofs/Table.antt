-- 01's TABLE ("A session and its edges"), as one statement: the session with its whole output, and the frames. Closed by computation.
use Prim.Native.Nat.{ℕ}
use mathlib.Core.Path.{◌≡◌, refl}
use mathlib.Core.List.{List, [], ◌∷◌, map}
use Rattle.frame.specs.Message.{lacks}
use Rattle.frame.specs.Encoding.{first_octet, frame_of, encode}
use Rattle.frame.specs.Reading.{opened, octets_at, fixed_at, sender_at, data_at, extension_at, extensions_from, rest_at, fields_of, reading_of}
use Rattle.frame.specs.Decoding.{Decoded, decode, message_at, held_at}
use Rattle.frame.proofs.Table.{rows}
use Rattle.text.specs.Digits.{value_of}
use Rattle.text.specs.Reading.{leading, event_in}
use Rattle.text.specs.Printing.{digit_of, digits_of, printed}
use Rattle.book.specs.Book as Book
use Rattle.book.specs.Events.{terms_in, event_of}
use Rattle.book.specs.Picture.{padded, state_of}
use Rattle.book.specs.Sound.{within_limits, setup_sound, ids_sound, limit_of, idle_sound, busy_sound, kept_none, kept_good, kept_sound, state_sound, sound_of}
use Rattle.book.specs.Step.{does, step, turn_of, set_up}
use Rattle.book.specs.View.{viewed, reading_in, msg_message, frame_message, msg_octets, frame_octets}
use Rattle.session.specs.Listing.{events_from, text, setup_in, answer_to, listed, listing}

-- "Input", a line each; `text` prints octets as the listing's lines
abbrev pub input : List (List ℕ)
input =
    (0x00 ∷ 0x00 ∷ 0x3c ∷ 0x00 ∷ 0x3c ∷ 0x01 ∷ 0x2c ∷ 0x47 ∷ 0x31 ∷ [])
    ∷ (0x02 ∷ 0x02 ∷ 0x03 ∷ 0x00 ∷ 0x25 ∷ 0x01 ∷ 0x00 ∷ 0x07 ∷ 0x00 ∷ 0x02 ∷ 0x4f ∷ 0x4b ∷ [])
    ∷ (0x11 ∷ 0x00 ∷ [])
    ∷ (0x12 ∷ 0x19 ∷ 0x02 ∷ 0x00 ∷ 0x07 ∷ 0x02 ∷ 0x41 ∷ 0x39 ∷ [])
    ∷ (0x03 ∷ [])
    ∷ (0x14 ∷ 0x00 ∷ [])
    ∷ []

-- "Whole output, in order"
abbrev pub output : List (List ℕ)
output =
    (0xf0 ∷ 0x00 ∷ [])
    ∷ (0x30 ∷ 0x02 ∷ 0x03 ∷ 0x01 ∷ [])
    ∷ (0xf0 ∷ 0x02 ∷ [])
    ∷ (0x32 ∷ 0x25 ∷ 0x01 ∷ 0x00 ∷ 0x07 ∷ 0x00 ∷ 0x02 ∷ 0x4f ∷ 0x4b ∷ [])
    ∷ (0xf0 ∷ 0x04 ∷ [])
    ∷ (0x22 ∷ 0x00 ∷ 0x19 ∷ 0x02 ∷ 0x00 ∷ 0x07 ∷ 0x02 ∷ 0x41 ∷ 0x39 ∷ [])
    ∷ (0xf0 ∷ 0x04 ∷ [])
    ∷ (0x33 ∷ [])
    ∷ (0xf0 ∷ 0x03 ∷ [])
    ∷ (0xf0 ∷ 0x00 ∷ [])
    ∷ []

session : listing (text input) ≡ text output
unfolding listing listed events_from text setup_in answer_to event_in leading value_of digit_of digits_of printed set_up within_limits step turn_of does event_of terms_in sound_of setup_sound ids_sound limit_of idle_sound busy_sound kept_none kept_good kept_sound state_sound padded state_of viewed reading_in msg_message frame_message msg_octets frame_octets decode message_at held_at reading_of opened lacks fields_of octets_at fixed_at sender_at data_at extension_at extensions_from rest_at first_octet frame_of encode Book.same_terms Book.settled Book.ids_of Book.waiting_of Book.full Book.without_in Book.without Book.body_of Book.with_seen Book.vet Book.bar_confirmed Book.bar Book.on_single Book.on_multi Book.on_shot Book.on_vetted Book.on_request Book.on_end Book.begun Book.on_reply Book.result_of Book.noted Book.left_waiting Book.on_dat Book.on_fin_ok Book.unsure
session = refl

pub table : (listing (text input) ≡ text output) × (map (λ (r : List ℕ × Decoded). decode r.0) rows ≡ map (λ (r : List ℕ × Decoded). r.1) rows)
table = (session, Rattle.frame.proofs.Table.table)
