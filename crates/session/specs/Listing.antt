-- THE LISTING, from the octets of its input to those of its output. 01, "Events, lines and the listing": "The listing program reads standard input
-- as lower-case hexadecimal, one event a line, at most 4,096 digits, each line ended by a line feed."
use Rattle.std.specs.Prelude.{ℕ, ◌+◌, ◌*◌, List, [], ◌∷◌, ◌++◌, map, eqb, drop, get_or, None, Option, Some, Result, Ok, Err}
use Rattle.octets.specs.Choice.{pick}
use Rattle.text.specs.Reading.{event_in}
use Rattle.text.specs.Printing.{printed}
use Rattle.book.specs.Book.{Outcome, refused, done}
use Rattle.book.specs.Lines.{line_of}
use Rattle.book.specs.Step.{step, turn_of, blank, set_up}
use Rattle.book.specs.declared.Unit.{Unit as Value}
use Rattle.book.specs.declared.Turn.{Turn}
use Rattle.book.specs.Refusals.{refusal_number}
use Rattle.book.specs.declared.Done.{Done}
use Rattle.book.specs.declared.Refusal.{Refusal}
use Rattle.book.specs.declared.Refusal.TheVariants.{BadSetup, NoEvent}
use Rattle.session.specs.declared.Phase.{Phase}
use Rattle.session.specs.declared.Phase.TheVariants.{First, Running, Stopped}

-- ---- the input's lines, as events

-- a last line without its line feed, where there is one
abbrev pub unended : (line : List ℕ) → List (Option (List ℕ))
unended [] = []
unended (c ∷ line) = None ∷ []

-- The events of the input's lines in order, `line` being what stands of the first one already. None of an event: "an empty line, an odd count, a
-- foreign character, a longer line or a last line without its line feed".
unfoldable pub events_from : (line : List ℕ) → List ℕ → List (Option (List ℕ))
events_from line [] = unended line
events_from line (c ∷ s) = pick (eqb c 10) (event_in line ∷ events_from [] s) (events_from (line ++ (c ∷ [])) s)

-- ---- the output's lines

-- "each in the same hexadecimal on a line of its own"
unfoldable pub text : List (List ℕ) → List ℕ
text [] = []
text (l ∷ ls) = printed l ++ text ls

-- "`ff` and the refusal number as one octet"
abbrev pub refusal_line : Refusal → List ℕ
refusal_line r = 0xff ∷ refusal_number r ∷ []

-- "`f0` and the state"
abbrev pub state_line : Value → List ℕ
state_line u = 0xf0 ∷ u.state ∷ []

-- What a line of the input leaves and prints.
pub record Answer : Type 0 where
  pub phase : Phase
  pub unit : Value
  pub lines : List (List ℕ)

-- ---- the first line

-- "2 octets each"
abbrev pub two : List ℕ → ℕ → ℕ
two s i = 256 * get_or s i 0 + get_or s (i + 1) 0

abbrev pub no_setup : Turn
no_setup = record { unit = blank; verdict = Err BadSetup }

-- "Its first line is setup: kind 00, then start, end and inactivity limits (2 octets each, 1..65,535), then the unit's name, 1..32 octets."
unfoldable pub setup_in : List ℕ → Turn
setup_in s = pick (eqb (get_or s 0 1) 0) (set_up (two s 1) (two s 3) (two s 5) (drop 7 s)) no_setup

abbrev pub first_turn : Option (List ℕ) → Turn
first_turn None = no_setup
first_turn (Some s) = setup_in s

-- "After a good setup it prints `f000`; after any other first line, or none at all, `ff07`, and stops."
abbrev pub begun : Value → Result Done Refusal → Answer
begun u (Ok d) = record { phase = Running; unit = u; lines = state_line u ∷ [] }
begun u (Err r) = record { phase = Stopped; unit = u; lines = refusal_line r ∷ [] }

-- ---- each later line

-- "Later, an empty line, an odd count, … is refusal 08."
abbrev pub later_outcome : Value → Option (List ℕ) → Outcome
later_outcome u None = refused NoEvent
later_outcome u (Some s) = step 1024 u s

-- "the output lines, or `ff` and the refusal number"
abbrev pub outcome_lines : Outcome → List (List ℕ)
outcome_lines (refused r) = refusal_line r ∷ []
outcome_lines (done st os) = map line_of os

-- "For each later line it prints the output lines, or `ff` and the refusal number as one octet, then `f0` and the state"
abbrev pub gone_on : Value → Outcome → Answer
gone_on u o = record { phase = Running; unit = (turn_of u o).unit; lines = outcome_lines o ++ (state_line (turn_of u o).unit ∷ []) }

-- ---- the whole

unfoldable pub answer_to : Phase → Value → Option (List ℕ) → Answer
answer_to First u e = begun (first_turn e).unit (first_turn e).verdict
answer_to Running u e = gone_on u (later_outcome u e)
answer_to Stopped u e = record { phase = Stopped; unit = u; lines = [] }

-- where the input ends: "or none at all"
abbrev pub at_end : Phase → List ℕ
at_end First = text (refusal_line BadSetup ∷ [])
at_end Running = []
at_end Stopped = []

unfoldable pub listed : Phase → Value → List (Option (List ℕ)) → List ℕ
listed p u [] = at_end p
listed p u (e ∷ es) = text (answer_to p u e).lines ++ listed (answer_to p u e).phase (answer_to p u e).unit es

-- the output of the listing program for an input
unfoldable pub listing : List ℕ → List ℕ
listing input = listed First blank (events_from [] input)
