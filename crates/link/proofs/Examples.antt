-- NO EMPTY PROMISE: runs of two units in octets, worked out. Closed by computation.
use Prim.Native.Nat.{ℕ}
use mathlib.Core.Path.{◌≡◌, refl}
use mathlib.Core.Bool.{true}
use mathlib.Core.List.{List, [], ◌∷◌, ◌++◌}
use Rattle.frame.specs.Message.{Extension, lacks}
use Rattle.frame.specs.Encoding.{first_octet, frame_of, encode}
use Rattle.frame.specs.Reading.{opened, octets_at, fixed_at, sender_at, data_at, extension_at, extensions_from, rest_at, fields_of, reading_of}
use Rattle.frame.specs.Decoding.{decode, message_at, held_at}
use Rattle.book.specs.Book as Book
use Rattle.book.specs.Events.{terms_in, event_of}
use Rattle.book.specs.Picture.{padded, state_of}
use Rattle.book.specs.Sound.{within_limits, setup_sound, ids_sound, limit_of, idle_sound, busy_sound, kept_none, kept_good, kept_sound, state_sound, sound_of}
use Rattle.book.specs.Step.{does, step, turn_of, set_up}
use Rattle.book.specs.View.{viewed, reading_in, msg_message, frame_message, msg_octets, frame_octets}
use Rattle.book.specs.declared.Unit.{Unit as Value}
use Rattle.pair_laws.specs.Model.{going, granted, broken, ask, grant}
use Rattle.pair_laws.specs.Statement as Statement
use Rattle.pair_laws.specs.Statement.{in_order}
use Rattle.link.specs.Wire.{extended, handed_over}
use Rattle.link.specs.Link.{Log, note_line, note_heard, identifier, answers, asks_for, at, Queue, World, world, carry, act, act_there, ask_near, reach, break_near, Side, near, far, Act, user, deliver, abort, run, beginning}

-- two units, with 01's limits
abbrev G1 : Value
G1 = (set_up 60 60 300 (0x47 ∷ 0x31 ∷ [])).unit

abbrev A9 : Value
A9 = (set_up 60 60 300 (0x41 ∷ 0x39 ∷ [])).unit

-- a load sheet with an identifier, its acknowledgement by a unit, and the request for it
abbrev sheet : (id : ℕ) → List ℕ
sheet i = 0x21 ∷ 0x01 ∷ 0x00 ∷ i ∷ []

abbrev okay : (id : ℕ) (name : List ℕ) → List ℕ
okay i name = 0x19 ∷ 0x02 ∷ 0x00 ∷ i ∷ 0x02 ∷ name

abbrev asks : List Extension → (id : ℕ) → Act
asks xs i = user xs (0x02 ∷ 0x02 ∷ 0x03 ∷ 0x01 ∷ sheet i)

abbrev ends : Act
ends = user [] (0x03 ∷ [])

-- what a later edition adds: one field, tag 5
abbrev more : List Extension
more = (0x05, 0xaa ∷ []) ∷ []

-- what is seen of a world: each end's state, its log of dialogue 1, the identifiers accepted and answered; and the lines on their way
pub data Shown : Type 0 where
  shown : (state : ℕ) → Log → (accepted answered : List ℕ) → (state' : ℕ) → Log → (accepted' answered' : List ℕ) → (out inn : Queue) → Shown

abbrev look : World → Shown
look (world (at u d h f acc ans) (at v e k g acc' ans') out inn next) = shown u.state (f 1) acc ans v.state (g 1) acc' ans' out inn

abbrev after : List (Side × Act) → Shown
after cs = look (run cs (beginning G1 A9))

-- the near unit's sheet 7 is on its way
abbrev opens : List Extension → List (Side × Act)
opens xs = (near, asks xs 7) ∷ (far, deliver []) ∷ (near, deliver xs) ∷ []

-- sheets and confirmations both ways, then the end, in order
abbrev both_ways : List Extension → List (Side × Act)
both_ways xs =
    opens xs ++ ((far, deliver []) ∷ (near, deliver xs) ∷ (far, asks [] 9) ∷ (near, deliver xs) ∷ (far, deliver [])
    ∷ (near, ends) ∷ (far, deliver []) ∷ (near, deliver xs) ∷ [])

-- with the frame of sheet 7 as it was handed over
abbrev ended_well : (handed : List ℕ) → Shown
ended_well f =
    shown 0 (record { handed = f ∷ []; given = sheet 9 ∷ []; told = okay 7 (0x41 ∷ 0x39 ∷ []) ∷ []; fate = granted }) (7 ∷ []) (7 ∷ [])
    0 (record { handed = sheet 9 ∷ []; given = sheet 7 ∷ []; told = okay 9 (0x47 ∷ 0x31 ∷ []) ∷ []; fate = going }) (9 ∷ []) (9 ∷ [])
    [] []

-- Sheets and confirmations go both ways and the dialogue ends in order: by two units of edition 1, and where one is of a later edition. The provider
-- aborts while sheet 7 is on its way: nobody is given it, and its user is told that it is uncertain. Both ends end at once: each gets 14.
pub examples :
    (after (both_ways []) ≡ ended_well (sheet 7))
    × (after (both_ways more) ≡ ended_well (0xa1 ∷ 0x01 ∷ 0x00 ∷ 0x07 ∷ 0x05 ∷ 0x01 ∷ 0xaa ∷ []))
    × (in_order granted going ≡ true)
    × (after (opens [] ++ ((near, abort) ∷ (far, deliver []) ∷ (near, deliver []) ∷ []))
    ≡ shown 0 (record { handed = sheet 7 ∷ []; given = []; told = []; fate = broken }) (7 ∷ []) (7 ∷ []) 0 (record { handed = []; given = []; told = []; fate = broken }) [] [] [] [])
    × (after (opens [] ++ ((far, deliver []) ∷ (near, ends) ∷ (far, ends) ∷ (far, deliver []) ∷ (near, deliver []) ∷ (near, deliver []) ∷ []))
    ≡ shown 0 (record { handed = sheet 7 ∷ []; given = []; told = okay 7 (0x41 ∷ 0x39 ∷ []) ∷ []; fate = granted }) (7 ∷ []) (7 ∷ [])
    0 (record { handed = []; given = sheet 7 ∷ []; told = []; fate = granted }) [] [] [] [])
unfolding run ask_near act act_there reach carry note_line note_heard handed_over extended identifier answers asks_for break_near in_order Statement.sent_end Statement.got_end Statement.got_rejected Statement.unbroken set_up within_limits step turn_of does event_of terms_in sound_of setup_sound ids_sound limit_of idle_sound busy_sound kept_none kept_good kept_sound state_sound padded state_of viewed reading_in msg_message frame_message msg_octets frame_octets decode message_at held_at reading_of opened lacks fields_of octets_at fixed_at sender_at data_at extension_at extensions_from rest_at first_octet frame_of encode Book.same_terms Book.settled Book.ids_of Book.waiting_of Book.full Book.without_in Book.without Book.body_of Book.ack_body Book.ack Book.local Book.unsure Book.with_seen Book.fall Book.quiet_fall Book.vet Book.bar_confirmed Book.bar Book.on_single Book.on_multi Book.on_shot Book.on_vetted Book.on_request Book.on_end Book.greet Book.first_contact Book.on_start Book.begun Book.on_reply Book.result_of Book.noted Book.left_waiting Book.on_dat Book.on_fin Book.on_fin_ok Book.on_abort ask grant
examples = (refl, refl, refl, refl, refl)
