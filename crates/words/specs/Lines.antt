-- A LINE IN PLAIN WORDS: what `explain` says of a line of a listing's input or output, or of a bare frame. 01, "Events, lines and the listing".
-- The kinds of input and output never collide, so the first octet says which a line is.
use Rattle.std.specs.Prelude.{ℕ, ◌+◌, ◌*◌, Bool, true, false, List, [], ◌∷◌, ◌++◌, eqb, leb, length, drop, get_or, None, Option, Some}
use Rattle.octets.specs.Choice.{pick, both, either}
use Rattle.text.specs.Reading.{event_in}
use Rattle.book.specs.Events.{event_of, terms_in}
use Rattle.book.specs.Sound.{within_limits}
use Rattle.book.specs.declared.Terms.{Terms}
use Rattle.book.specs.declared.Event.{Event}
use Rattle.book.specs.declared.Event.TheVariants.{Malformed, Transfer as Asked, End as EndSaid, Tick, StartAsked, StartAnswered, Data, EndAsked, EndAnswered, Aborted, Dropped}
use Rattle.words.specs.declared.outputs.Output.{Output}
use Rattle.words.specs.declared.outputs.Output.TheVariants.{Setup, Transfer, Confirmation, End, Lost, Seen, StartRequest, StartResponse, DataRequest, EndRequest, EndResponse, AbortRequest, State, Refused, Wrong, Input}
use Rattle.phrases.specs.Spelling.{spelled, decimal, beginning}
use Rattle.phrases.specs.Tables.{terms_words, accepted_words, delivery_words, reason_words, refusal_meaning, state_name}
use Rattle.phrases.specs.Frames.{frame_words, frame_or_nothing, answered_words}

-- ---- what is none

-- an event that is refused
unfoldable pub none_words : (refusal : ℕ) → List ℕ
none_words n = spelled "none: refusal " ++ decimal n ++ spelled ": " ++ refusal_meaning n

-- "an empty line, an odd count, a foreign character, a longer line or a last line without its line feed is refusal 08"
abbrev pub no_digits : List ℕ
no_digits = spelled "none: refusal 8: not an even number of lower-case hexadecimal digits, 2 to 4,096, and a line feed"

-- the kind of an output line with a body that it never has: 01 gives this no number
abbrev pub wrong_body : List ℕ
wrong_body = spelled "none: the kind of an output line, but not its body"

-- ---- the parts that lines share

-- a number of two octets
abbrev pub two : List ℕ → ℕ → ℕ
two s i = 256 * get_or s i 0 + get_or s (i + 1) 0

-- terms and a frame; terms and a frame or nothing; a result and a frame or nothing
unfoldable pub with_terms : (word : List ℕ) → Terms → List ℕ → List ℕ
with_terms word t s = word ++ terms_words t ++ spelled "; " ++ frame_words (drop 4 s)

unfoldable pub with_start : (word : List ℕ) → Terms → List ℕ → List ℕ
with_start word t s = word ++ terms_words t ++ spelled "; " ++ frame_or_nothing (drop 4 s)

unfoldable pub with_reply : (word : List ℕ) → Bool → List ℕ → List ℕ
with_reply word b s = word ++ accepted_words b ++ spelled "; " ++ frame_or_nothing (drop 2 s)

unfoldable pub with_frame : (word : List ℕ) → List ℕ → List ℕ
with_frame word s = word ++ frame_words (drop 1 s)

unfoldable pub with_result : (word : List ℕ) → Bool → List ℕ
with_result word b = word ++ accepted_words b

-- ---- input

-- "kind 00, then start, end and inactivity limits (2 octets each, 1..65,535), then the unit's name, 1..32 octets": the unit's own limits
unfoldable pub is_setup : List ℕ → Bool
is_setup s = within_limits (two s 1) (two s 3) (two s 5) (length (drop 7 s))

unfoldable pub limits_words : (start end inactivity : ℕ) → List ℕ
limits_words start end inactivity =
    (spelled "in: setup; limits start " ++ decimal start) ++ (spelled ", end " ++ decimal end) ++ (spelled ", inactivity " ++ decimal inactivity)

unfoldable pub setup_words : List ℕ → List ℕ
setup_words s = pick (is_setup s) (limits_words (two s 1) (two s 3) (two s 5) ++ spelled " ticks; name " ++ beginning (drop 7 s)) (none_words 7)

-- an event, as the unit reads it
abbrev pub event_words : List ℕ → Event → List ℕ
event_words s Malformed = none_words 8
event_words s (Asked false t) = with_terms (spelled "in: transfer; ") t s
event_words s (Asked true t) = with_terms (spelled "in: confirmed transfer; ") t s
event_words s EndSaid = spelled "in: G-END"
event_words s Tick = spelled "in: one tick"
event_words s (StartAsked t) = with_start (spelled "in: D-START indication; ") t s
event_words s (StartAnswered b) = with_reply (spelled "in: D-START confirmation; ") b s
event_words s Data = with_frame (spelled "in: D-DATA indication; ") s
event_words s EndAsked = spelled "in: D-END indication"
event_words s (EndAnswered b) = with_result (spelled "in: D-END confirmation; ") b
event_words s Aborted = spelled "in: D-ABORT indication"
event_words s Dropped = spelled "in: D-P-ABORT indication"

unfoldable pub input_words : List ℕ → List ℕ
input_words s = event_words s (event_of s)

-- ---- output

-- the body of a kind, or none that it ever has
abbrev pub alone : List ℕ → Output → Output
alone s o = pick (eqb (length s) 1) o Wrong

-- "RER never 0" (30); 20 and 21 carry the terms of a 10, or the dialogue's
abbrev pub termed : List ℕ → Output → Output
termed s o = pick (both (leb 4 (length s)) (both (leb 1 (get_or s 3 0)) (leb (get_or s 3 0) 2))) o Wrong

-- a number from the first to the last after the kind, and nothing more; and more or nothing
abbrev pub is_pair : (first last : ℕ) → List ℕ → Bool
is_pair first last s = both (eqb (length s) 2) (both (leb first (get_or s 1 0)) (leb (get_or s 1 0) last))

abbrev pub is_led : (last : ℕ) → List ℕ → Bool
is_led last s = both (leb 2 (length s)) (leb (get_or s 1 0) last)

-- "Reasons: 0 peer abort, 1 provider abort, 2 timer, 3 rejected, 10 frame not expected, 11 to 16 a frame fault."
abbrev pub is_reasoned : List ℕ → Bool
is_reasoned s = either (is_pair 0 3 s) (is_pair 10 16 s)

-- "Out: 20 transfer indication …; 35 D-ABORT request (reason)", and the listing's `f0` and `ff`; "kind 00" is setup; every other is an event or none
abbrev pub by_kind : (kind : ℕ) → List ℕ → Output
by_kind k s =
    pick (eqb k 0x00) Setup
    (pick (eqb k 0x20) (termed s (Transfer false (terms_in s)))
    (pick (eqb k 0x21) (termed s (Transfer true (terms_in s)))
    (pick (eqb k 0x22) (pick (is_led 2 s) (Confirmation (get_or s 1 0)) Wrong)
    (pick (eqb k 0x23) (alone s End)
    (pick (eqb k 0x24) (pick (is_reasoned s) (Lost (get_or s 1 0)) Wrong)
    (pick (eqb k 0x25) (pick (eqb (length s) 3) (Seen (two s 1)) Wrong)
    (pick (eqb k 0x30) (termed s (StartRequest (terms_in s)))
    (pick (eqb k 0x31) (pick (is_led 1 s) (StartResponse (eqb (get_or s 1 0) 0)) Wrong)
    (pick (eqb k 0x32) DataRequest
    (pick (eqb k 0x33) (alone s EndRequest)
    (pick (eqb k 0x34) (pick (is_pair 0 1 s) (EndResponse (eqb (get_or s 1 0) 0)) Wrong)
    (pick (eqb k 0x35) (pick (is_reasoned s) (AbortRequest (get_or s 1 0)) Wrong)
    (pick (eqb k 0xf0) (pick (is_pair 0 4 s) (State (get_or s 1 0)) Wrong)
    (pick (eqb k 0xff) (pick (is_pair 1 9 s) (Refused (get_or s 1 0)) Wrong) Input))))))))))))))

unfoldable pub output_of : List ℕ → Output
output_of s = by_kind (get_or s 0 0) s

-- "22 confirmation (0 successful, 1 failed, 2 uncertain; frame without extensions)", with the message that it answers
unfoldable pub delivery_line : (result : ℕ) → List ℕ → List ℕ
delivery_line n s =
    spelled "out: confirmation" ++ answered_words (drop 2 s) ++ spelled ": " ++ delivery_words n ++ spelled "; " ++ frame_words (drop 2 s)

abbrev pub state_words : ℕ → List ℕ
state_words n = spelled "state: " ++ state_name n

abbrev pub refused_words : (refusal : ℕ) → List ℕ
refused_words n = spelled "refused, " ++ decimal n ++ spelled ": " ++ refusal_meaning n

abbrev pub output_words : List ℕ → Output → List ℕ
output_words s Setup = setup_words s
output_words s (Transfer false t) = with_terms (spelled "out: transfer indication; ") t s
output_words s (Transfer true t) = with_terms (spelled "out: confirmed transfer indication; ") t s
output_words s (Confirmation n) = delivery_line n s
output_words s End = spelled "out: end"
output_words s (Lost n) = spelled "out: lost; " ++ reason_words n
output_words s (Seen n) = spelled "out: extension fields seen: " ++ decimal n
output_words s (StartRequest t) = with_start (spelled "out: D-START request; ") t s
output_words s (StartResponse b) = with_reply (spelled "out: D-START response; ") b s
output_words s DataRequest = with_frame (spelled "out: D-DATA request; ") s
output_words s EndRequest = spelled "out: D-END request"
output_words s (EndResponse b) = with_result (spelled "out: D-END response; ") b
output_words s (AbortRequest n) = spelled "out: D-ABORT request; " ++ reason_words n
output_words s (State n) = state_words n
output_words s (Refused n) = refused_words n
output_words s Wrong = wrong_body
output_words s Input = input_words s

unfoldable pub line_words : List ℕ → List ℕ
line_words s = output_words s (output_of s)

-- ---- a bare frame

abbrev pub frame_word : List ℕ
frame_word = spelled "frame "

abbrev pub begins : (word : List ℕ) → List ℕ → Bool
begins [] s = true
begins (c ∷ w) [] = false
begins (c ∷ w) (d ∷ s) = both (eqb d c) (begins w s)

unfoldable pub frame_line : List ℕ → List ℕ
frame_line s = spelled "frame: " ++ frame_words s

-- ---- the whole

-- what is said of digits, by the event that they are: of a bare frame, and of any other line
abbrev pub words_of : (framed : Bool) → Option (List ℕ) → List ℕ
words_of framed None = no_digits
words_of true (Some s) = frame_line s
words_of false (Some s) = line_words s

-- the explanation of a line, both without their line feed
unfoldable pub explained : List ℕ → List ℕ
explained line = pick (begins frame_word line) (words_of true (event_in (drop 6 line))) (words_of false (event_in line))
