-- A frame in words: each field that is present, in 01's order, or the fault.
use Rattle.std.specs.Prelude.{ℕ, List, [], ◌++◌, eqb, length, None, Option, Some, Result, Ok, Err}
use Rattle.octets.specs.Choice.{pick}
use Rattle.frame.specs.Faults.{fault_number}
use Rattle.frame.specs.Reading.{reading_of}
use Rattle.frame.specs.Decoding.{one_octet, two_octets, held_at, part_at}
use Rattle.frame.specs.declared.Fault.{Fault}
use Rattle.frame.specs.declared.Header.{Header}
use Rattle.frame.specs.declared.Place.{Place}
use Rattle.frame.specs.declared.Whole.{Whole}
use Rattle.phrases.specs.Spelling.{spelled, decimal, beginning}
use Rattle.phrases.specs.Tables.{shot_words, confirmation_words, fault_meaning}

-- a number after a word, where there is one
abbrev pub numbered : (word : List ℕ) → Option ℕ → List ℕ
numbered word None = []
numbered word (Some n) = word ++ decimal n

-- "type, 1 octet; identifier, 2; reference, 2"
abbrev pub type_word : List ℕ
type_word = spelled ", type "

abbrev pub type_words : List ℕ → Option Place → List ℕ
type_words s f = numbered type_word (one_octet (held_at s f))

abbrev pub identifier_words : List ℕ → Option Place → List ℕ
identifier_words s f = numbered (spelled ", message ") (two_octets (held_at s f))

abbrev pub reference_words : List ℕ → Option Place → List ℕ
reference_words s f = numbered (spelled ", answers message ") (two_octets (held_at s f))

abbrev pub sender_words : List ℕ → Option Place → List ℕ
sender_words s None = []
sender_words s (Some p) = spelled ", from " ++ beginning (part_at s (Some p))

-- how much, and its beginning
abbrev pub data_words : List ℕ → Option Place → List ℕ
data_words s None = []
data_words s (Some p) = spelled ", user data of length " ++ decimal (length (part_at s (Some p))) ++ spelled ": " ++ beginning (part_at s (Some p))

abbrev pub extension_words : ℕ → List ℕ
extension_words n = pick (eqb n 0) [] (spelled ", extension fields: " ++ decimal n)

unfoldable pub head_words : List ℕ → Header → List ℕ
head_words s h = shot_words h.multi_shot ++ confirmation_words h.confirmation ++ type_words s h.message_type

unfoldable pub names_words : List ℕ → Header → List ℕ
names_words s h = identifier_words s h.identifier ++ reference_words s h.reference

unfoldable pub rest_words : List ℕ → Header → (extensions : ℕ) → List ℕ
rest_words s h n = sender_words s h.sender ++ data_words s h.user_data ++ extension_words n

unfoldable pub message_words : List ℕ → Header → (extensions : ℕ) → List ℕ
message_words s h n = head_words s h ++ names_words s h ++ rest_words s h n

unfoldable pub fault_words : Fault → List ℕ
fault_words f = spelled "fault " ++ decimal (fault_number f) ++ spelled ": " ++ fault_meaning (fault_number f)

-- "A reader gives either the whole message or the fault"
abbrev pub reading_words : List ℕ → Result Whole Fault → List ℕ
reading_words s (Ok w) = message_words s w.header w.extensions
reading_words s (Err f) = fault_words f

unfoldable pub frame_words : List ℕ → List ℕ
frame_words s = reading_words s (reading_of s)

-- "frame or nothing"
unfoldable pub frame_or_nothing : List ℕ → List ℕ
frame_or_nothing s = pick (eqb (length s) 0) (spelled "no frame") (frame_words s)

-- the message that a confirmation answers
abbrev pub answered_in : List ℕ → Result Whole Fault → List ℕ
answered_in s (Ok w) = numbered (spelled " of message ") (two_octets (held_at s w.header.reference))
answered_in s (Err f) = []

unfoldable pub answered_words : List ℕ → List ℕ
answered_words s = answered_in s (reading_of s)
