-- THE TABLE OF 01 ("A session and its edges"), its frames: one statement. Closed by computation.
use Rattle.std.specs.Prelude.{None, Some}
use Prim.Native.Nat.{ℕ}
use mathlib.Core.Bool.{false}
use mathlib.Core.List.{List, [], ◌∷◌, map}
use mathlib.Core.Path.{◌≡◌, refl}
use Rattle.frame.specs.Message.{Message, lacks}
use Rattle.frame.specs.Reading.{opened, octets_at, fixed_at, sender_at, data_at, extension_at, extensions_from, rest_at, fields_of, reading_of}
use Rattle.frame.specs.Decoding.{Decoded, valid, fault, decode, message_at, held_at}

-- a single-shot message with confirmation 0 and no field, and the same with empty user data
abbrev empty : Message
empty = record {
  multi_shot = false;
  confirmation = 0;
  message_type = None;
  message_identifier = None;
  message_reference = None;
  sender = None;
  user_data = None;
}

abbrev empty_data : Message
empty_data = record {
  multi_shot = false;
  confirmation = 0;
  message_type = None;
  message_identifier = None;
  message_reference = None;
  sender = None;
  user_data = Some [];
}

-- frame `0000` valid, `0005` fault 13, `00` and the empty frame 12, `0001` 15, `000000` 16, `04000000` valid with empty data, `8000` 12,
-- `800000` 13, `80000100` valid with one extension field, `04000200` 12 (length 512, no data), `04000201` 14 (length 513)
abbrev pub rows : List (List ℕ × Decoded)
rows =
    ((0x00 ∷ 0x00 ∷ []), valid empty 0)
    ∷ ((0x00 ∷ 0x05 ∷ []), fault 13)
    ∷ ((0x00 ∷ []), fault 12)
    ∷ ([], fault 12)
    ∷ ((0x00 ∷ 0x01 ∷ []), fault 15)
    ∷ ((0x00 ∷ 0x00 ∷ 0x00 ∷ []), fault 16)
    ∷ ((0x04 ∷ 0x00 ∷ 0x00 ∷ 0x00 ∷ []), valid empty_data 0)
    ∷ ((0x80 ∷ 0x00 ∷ []), fault 12)
    ∷ ((0x80 ∷ 0x00 ∷ 0x00 ∷ []), fault 13)
    ∷ ((0x80 ∷ 0x00 ∷ 0x01 ∷ 0x00 ∷ []), valid empty 1)
    ∷ ((0x04 ∷ 0x00 ∷ 0x02 ∷ 0x00 ∷ []), fault 12)
    ∷ ((0x04 ∷ 0x00 ∷ 0x02 ∷ 0x01 ∷ []), fault 14)
    ∷ []

pub table : map (λ (r : List ℕ × Decoded). decode r.0) rows ≡ map (λ (r : List ℕ × Decoded). r.1) rows
unfolding decode message_at held_at reading_of opened lacks fields_of octets_at fixed_at sender_at data_at extension_at extensions_from rest_at
table = refl
