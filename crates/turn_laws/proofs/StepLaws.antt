-- What a step is, by the tests before the event and by the event. Closed by the equations of `step` and `does`.
use Prim.Native.Nat.{ℕ, ◌≤◌, ◌<◌}
use mathlib.Core.Path.{◌≡◌, ap, sym, ◌∙◌}
use mathlib.Core.Bool.{Bool, true, false}
use mathlib.Core.List.{List}
use borrow.Author.Tests.{lt-ltb, le-ltb}
use lib.ListN.{drop}
use Rattle.book.specs.declared.Terms.{Terms}
use Rattle.book.specs.declared.Unit.{Unit as Value}
use Rattle.book.specs.declared.Turn.{Turn}
use Rattle.book.specs.declared.Event.{Event}
use Rattle.book.specs.declared.Event.TheVariants.{Malformed, Transfer, StartAsked, StartAnswered, Data}
use Rattle.book.specs.declared.Refusal.TheVariants.{NoRoom, NoEvent, Unsound}
use Rattle.book.specs.Book.{refused, on_request, on_start, on_reply, on_dat}
use Rattle.book.specs.View.{reading_in}
use Rattle.book.specs.Events.{event_of, frame_from}
use Rattle.book.specs.Picture.{setup_of, state_of}
use Rattle.book.specs.Sound.{sound_of}
use Rattle.book.specs.Step.{does, or_nothing, step, Turned}
use Rattle.turn_laws.proofs.Gave.{turned_as}

-- ---- what each event does

module _ (u : Value) (ev : List ℕ) {e : Event} {r : Turn} {before after : List ℕ} where
  pub does_as : (g : Event) → e ≡ g → Turned u (does (setup_of u) g (drop (frame_from g) ev) (state_of u)) before r after →
      Turned u (does (setup_of u) e (drop (frame_from e) ev) (state_of u)) before r after
  does_as g q t = turned_as (ap (λ x. does (setup_of u) x (drop (frame_from x) ev) (state_of u)) q) t

-- the events that carry a frame, f
module _ (u : Value) (ev f : List ℕ) {e : Event} {r : Turn} {before after : List ℕ} where
  pub does_transfer : (c : Bool) (a : Terms) → e ≡ Transfer c a → f ≡ drop 4 ev → Turned u (on_request c a (reading_in f) (state_of u)) before r after →
      Turned u (does (setup_of u) e (drop (frame_from e) ev) (state_of u)) before r after
  unfolding does
  does_transfer c a q z t = does_as u ev (Transfer c a) q (turned_as (ap (λ g. on_request c a (reading_in g) (state_of u)) (sym z)) t)

  pub does_start : (a : Terms) → e ≡ StartAsked a → f ≡ drop 4 ev → Turned u (on_start (setup_of u) a (or_nothing f) (state_of u)) before r after →
      Turned u (does (setup_of u) e (drop (frame_from e) ev) (state_of u)) before r after
  unfolding does
  does_start a q z t = does_as u ev (StartAsked a) q (turned_as (ap (λ g. on_start (setup_of u) a (or_nothing g) (state_of u)) (sym z)) t)

  pub does_reply : (b : Bool) → e ≡ StartAnswered b → f ≡ drop 2 ev → Turned u (on_reply (setup_of u) b (or_nothing f) (state_of u)) before r after →
      Turned u (does (setup_of u) e (drop (frame_from e) ev) (state_of u)) before r after
  unfolding does
  does_reply b q z t = does_as u ev (StartAnswered b) q (turned_as (ap (λ g. on_reply (setup_of u) b (or_nothing g) (state_of u)) (sym z)) t)

  pub does_data : e ≡ Data → f ≡ drop 1 ev → Turned u (on_dat (setup_of u) (reading_in f) (state_of u)) before r after →
      Turned u (does (setup_of u) e (drop (frame_from e) ev) (state_of u)) before r after
  unfolding does
  does_data q z t = does_as u ev Data q (turned_as (ap (λ g. on_dat (setup_of u) (reading_in g) (state_of u)) (sym z)) t)

pub does_malformed : (u : Value) (ev : List ℕ) {e : Event} → e ≡ Malformed → does (setup_of u) e (drop (frame_from e) ev) (state_of u) ≡ refused NoEvent
unfolding does
does_malformed u ev q = ap (λ x. does (setup_of u) x (drop (frame_from x) ev) (state_of u)) q

-- ---- the tests before the event

module _ (room : ℕ) (u : Value) (ev : List ℕ) where
  pub step_small : room < 1024 → step room u ev ≡ refused NoRoom
  unfolding step
  step_small h = rw (lt-ltb room 1024 h)

  pub step_unsound : 1024 ≤ room → {b : Bool} → b ≡ sound_of u → b ≡ false → step room u ev ≡ refused Unsound
  unfolding step
  step_unsound h q z = rw (le-ltb room 1024 h, sym q ∙ z)

  pub step_does : 1024 ≤ room → {b : Bool} → b ≡ sound_of u → b ≡ true → {e : Event} → e ≡ event_of ev →
      step room u ev ≡ does (setup_of u) e (drop (frame_from e) ev) (state_of u)
  unfolding step
  step_does h q z g = rw (le-ltb room 1024 h, sym q ∙ z, g)
