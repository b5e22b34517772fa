-- A TURN AT THE LEVEL OF OCTETS: read the event, apply the rule book, write the lines.
use Rattle.std.specs.Prelude.{ℕ, ◌≡◌, List, [], ◌∷◌, length, drop, replicate, ltb, None, Option, Some, Ok, Err}
use Rattle.std.proofs.lemmas.List.Edits.{sets}
use Rattle.octets.specs.Choice.{pick}
use Rattle.book.specs.Book.{Reading, State, idle, Setup, Outcome, refused, done, on_request, on_end, on_tick, late, on_start, on_reply, on_dat, on_fin, on_fin_ok, on_abort}
use Rattle.book.specs.View.{reading_in}
use Rattle.book.specs.Lines.{laid_out}
use Rattle.book.specs.Picture.{picture, setup_of, state_of, no_terms}
use Rattle.book.specs.Sound.{sound_of, within_limits}
use Rattle.book.specs.Events.{event_of, frame_from}
use Rattle.book.specs.declared.Unit.{Unit as Value}
use Rattle.book.specs.declared.Event.{Event}
use Rattle.book.specs.declared.Event.TheVariants.{Malformed, Transfer, End, Tick, StartAsked, StartAnswered, Data, EndAsked, EndAnswered, Aborted, Dropped}
use Rattle.book.specs.declared.Refusal.TheVariants.{NoRoom, BadSetup, NoEvent, Unsound}
use Rattle.book.specs.declared.Turn.{Turn}

-- "frame or nothing": an empty frame in 10 and 11 is nothing
abbrev pub or_nothing : List ℕ → Option Reading
or_nothing [] = None
or_nothing (x ∷ s) = Some (reading_in (x ∷ s))

-- the rule book's answer to an event whose frame has the octets f
unfoldable pub does : Setup → Event → (f : List ℕ) → State → Outcome
does s Malformed f st = refused NoEvent
does s (Transfer c a) f st = on_request c a (reading_in f) st
does s End f st = on_end st
does s Tick f st = on_tick s (late s st) st
does s (StartAsked a) f st = on_start s a (or_nothing f) st
does s (StartAnswered b) f st = on_reply s b (or_nothing f) st
does s Data f st = on_dat s (reading_in f) st
does s EndAsked f st = on_fin s st
does s (EndAnswered b) f st = on_fin_ok s b st
does s Aborted f st = on_abort s 0 st
does s Dropped f st = on_abort s 1 st

-- "Order: 6, 9, 8; then for requests 2, 1, 3, 4, 5; for other events 1." 6: "the lent buffer has fewer than 1,024 octets"; 9: "the unit handed in
-- isn't sound"
unfoldable pub step : (room : ℕ) → Value → (event : List ℕ) → Outcome
step room u ev =
    pick (ltb room 1024) (refused NoRoom)
    (pick (sound_of u) (does (setup_of u) (event_of ev) (drop (frame_from (event_of ev)) ev) (state_of u)) (refused Unsound))

-- ---- an outcome as the code's value and octets

-- "Every refusal returns its number, the unit unchanged and the buffer untouched"
unfoldable pub turn_of : Value → Outcome → Turn
turn_of u (refused r) = record { unit = u; verdict = Err r }
turn_of u (done st os) = record { unit = picture (setup_of u) st; verdict = Ok (record { lines = length os; octets = length (laid_out os) }) }

unfoldable pub octets_of : Outcome → List ℕ
octets_of (refused r) = []
octets_of (done st os) = laid_out os

-- a turn with the outcome o: the value returned, and the whole buffer ("octets after the used part stay")
pub record Turned (u : Value) (o : Outcome) (before : List ℕ) (r : Turn) (after : List ℕ) : Type 0 where
  pub result : r ≡ turn_of u o
  pub buffer : after ≡ sets before 0 (octets_of o)

-- ---- setup

-- "a refused setup returns a unit with every number 0"
abbrev pub blank : Value
blank = record {
  name = replicate 32 0;
  waiting = replicate 8 0;
  kept = replicate 554 0;
  state = 0;
  start = 0;
  end = 0;
  inactivity = 0;
  elapsed = 0;
  terms = no_terms;
  letters = 0;
  count = 0;
  octets = 0;
}

-- 7: "setup is outside its limits"; else a unit in Idle
unfoldable pub set_up : (start end inactivity : ℕ) (name : List ℕ) → Turn
set_up start end inactivity name =
    pick (within_limits start end inactivity (length name))
    (record {
      unit = picture (record { name = name; start_limit = start; end_limit = end; inactivity_limit = inactivity }) idle;
      verdict = Ok (record { lines = 0; octets = 0 });
    })
    (record { unit = blank; verdict = Err BadSetup })
