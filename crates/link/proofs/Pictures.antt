-- A unit that is the picture of a state within its limits: what it says to an event is what the rule book says in that state, and its next picture is
-- that of the next state. Closed by cases on the state.
use Prim.Native.Nat.{ℕ, ◌-◌}
use mathlib.Core.Path.{◌≡◌, refl, ap}
use mathlib.Core.List.{List}
use lib.ListN.{length, take, drop, replicate}
use lib.Seq.{take-append_seam}
use Rattle.book.specs.Book.{Msg, msg, good, State, idle, single, multi, ending, assoc, Setup, done, Out}
use Rattle.book.specs.View.{reading_in, msg_octets, frame_octets, frame_message}
use Rattle.book.specs.Picture.{padded, picture, setup_of, state_of}
use Rattle.book.specs.Events.{event_of, frame_from}
use Rattle.book.specs.Step.{does, step, turn_of}
use Rattle.book.proofs.Views.{reads_octets}
use Rattle.sound_laws.proofs.Within.{Within, in_idle, in_single, in_multi, in_ending, in_assoc, Limited, Keepable, pictures_sound}

front : (n : ℕ) (s : List ℕ) → take (length s) (padded n s) ≡ s
unfolding padded
front n s = take-append_seam s (replicate (n - length s) 0)

-- ---- the picture, read back

pub setup_back : (s : Setup) (st : State) → setup_of (picture s st) ≡ s
setup_back s idle = rw (front 32 s.name)
setup_back s (single a w t) = rw (front 32 s.name)
setup_back s (multi a k t) = rw (front 32 s.name)
setup_back s (ending a w t) = rw (front 32 s.name)
setup_back s (assoc a w t) = rw (front 32 s.name)

kept_back : (k : Msg) → Keepable k → reading_in (msg_octets k) ≡ good (msg k) 0
unfolding msg_octets frame_octets frame_message
kept_back k h = reads_octets (msg k) h.allowed

pub state_back : (s : Setup) (st : State) → Within s st → state_of (picture s st) ≡ st
unfolding state_of
state_back s idle in_idle = refl
state_back s (single a w t) (in_single r l h) = rw (front 8 w)
state_back s (multi a k t) (in_multi r l h) = rw (front 554 (msg_octets k), kept_back k l)
state_back s (ending a w t) (in_ending r l h) = rw (front 8 w)
state_back s (assoc a w t) (in_assoc r l h) = rw (front 8 w)

-- ---- a turn of it

module _ (s : Setup) (limited : Limited s) (st : State) (w : Within s st) where
  -- what it says to an event
  pub step_picture : (ev : List ℕ) → step 1024 (picture s st) ev ≡ does s (event_of ev) (drop (frame_from (event_of ev)) ev) st
  unfolding step
  step_picture ev = rw (pictures_sound s st limited w, setup_back s st, state_back s st w)

  -- the unit that an event leaves
  pub next_picture : (v : State) (os : List Out) → (turn_of (picture s st) (done v os)).unit ≡ picture s v
  unfolding turn_of
  next_picture v os = ap (λ c. picture c v) (setup_back s st)
