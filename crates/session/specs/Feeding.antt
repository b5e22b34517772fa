-- The listing in parts: what a session makes of the input that it is handed, however that is cut. Lines heard one after the other are text's (Hearing);
-- here is what a session is and how it answers a line. That the parts give the whole is a theorem (proofs/Whole).
use Rattle.std.specs.Prelude.{ℕ, ◌≡◌, Bool, false, List, [], ◌∷◌, ltb, length, None, Option, Some}
use Rattle.octets.specs.Choice.{pick, either}
use Rattle.text.specs.Reading.{event_in}
use Rattle.text.specs.Hearing as Hearing
use Rattle.text.specs.declared.hearing.Fed.{Fed}
use Rattle.text.specs.declared.hearing.Reader.{Reader}
use Rattle.book.specs.Step.{blank}
use Rattle.book.specs.declared.Unit.{Unit as Value}
use Rattle.image.specs.Image.{unit_of, image_of}
use Rattle.session.specs.Listing.{Answer, answer_to, text, listed}
use Rattle.session.specs.declared.Phase.{Phase}
use Rattle.session.specs.declared.Phase.TheVariants.{First}

-- What a session is between two lines: its unit, and its phase.
pub record State : Type 0 where
  pub unit : Value
  pub phase : Phase

-- the code's phase, with the image of the unit that is lent beside it
abbrev pub state_of : Phase → (image : List ℕ) → State
state_of p image = record { unit = unit_of image; phase = p }

-- A session where it stands: its state, and whether a line that is too long is being passed over.
abbrev pub Standing : Type 0
Standing = Hearing.Standing State

abbrev pub standing : Reader Phase → (image : List ℕ) → Standing
standing s image = Hearing.standing state_of s image

-- a session before its first line
abbrev pub fresh : Standing
fresh = record { state = record { unit = blank; phase = First }; passing = false }

-- the code's; whatever image is lent with it, the first line writes a new one (proofs/Whole, `runs_over`)
abbrev pub unheard : Reader Phase
unheard = record { hearer = First; passing = false }

-- ---- one line

-- the event that a line is; a line that was too long (None) is none
abbrev pub event_of : Option (List ℕ) → Option (List ℕ)
event_of None = None
event_of (Some l) = event_in l

-- an answer, as a state and the text that is printed
abbrev pub said : Answer → Hearing.Answer State
said a = record { state = record { unit = a.unit; phase = a.phase }; text = text a.lines }

abbrev pub answer : State → Option (List ℕ) → Hearing.Answer State
answer s l = said (answer_to s.phase s.unit (event_of l))

-- "at most 4,096 digits"
abbrev pub longest : ℕ
longest = 4096

-- the line at the front of the input; of a line that is passed over, its end
abbrev pub line_taken : Standing → List ℕ → Hearing.Taken State
line_taken = Hearing.line_taken longest answer

-- ---- all lines for which there is room

-- the octets that one line of the input may print: twice the 1,024 of its lines, and `f0` with the state
abbrev pub most : ℕ
most = 2053

-- one line after the other, at most `lines` of them, until there is no room for one more
abbrev pub feeding : (lines room : ℕ) → Standing → List ℕ → Hearing.Feeding State
feeding = Hearing.feeding longest most answer

-- what `feed` answers: all lines were taken for which there is room, and the whole image is that of the unit then
pub record Feeds (s : Standing) (i before : List ℕ) (r : Fed (Reader Phase)) (block after : List ℕ) : Type 0 where
  pub fed : Hearing.Feeds state_of (feeding (length i) (length before) s i) i before block after r
  pub image : block ≡ image_of (feeding (length i) (length before) s i).reader.state.unit

-- ---- the end of the input

-- the last line, where one stands without its line feed
abbrev pub last_line : (left : Bool) → List (Option (List ℕ))
last_line left = pick left (None ∷ []) []

abbrev pub last_events : Standing → (held : List ℕ) → List (Option (List ℕ))
last_events s held = last_line (either s.passing (ltb 0 (length held)))

unfoldable pub finishing : (room : ℕ) → Standing → (held : List ℕ) → List ℕ
finishing room s held = pick (ltb room most) [] (listed s.state.phase s.state.unit (last_events s held))
