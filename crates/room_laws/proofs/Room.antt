-- THE ROOM: the lines of any event of a sound unit take at most 1,024 octets, the buffer that was asked for, and are at most ten.
-- Closed by what a sound unit is (Sounds), what a frame that was read is (Views), and the bounds of each event (Bounds).
use Prim.Native.Nat.{ℕ, ◌+◌, ◌≤◌, ◌<◌}
use mathlib.Core.Path.{◌≡◌, refl}
use mathlib.Core.Bool.{true}
use mathlib.Core.List.{List, [], ◌∷◌}
use native.Mathlib.Omega.{arith}
use lib.Dec.{ltb}
use lib.ListN.{length, take, drop, get_or}
use lib.Seq.{get_or-drop, length-take-le}
use Rattle.frame.specs.Reading.{octet}
use Rattle.book.specs.declared.Unit.{Unit as Value}
use Rattle.book.specs.declared.Event.{Event}
use Rattle.book.specs.declared.Event.TheVariants.{Malformed, Transfer, End, Tick, StartAsked, StartAnswered, Data, EndAsked, EndAnswered, Aborted, Dropped}
use Rattle.book.specs.Book.{Reading, bad, good, Out, State, idle, single, multi, ending, assoc, Setup, done, waiting_of, late}
use Rattle.book.specs.View.{reading_in}
use Rattle.book.specs.Lines.{read_octets, held_octets, laid_out}
use Rattle.book.specs.Picture.{picture, setup_of, state_of}
use Rattle.book.specs.Sound.{sound_of}
use Rattle.book.specs.Events.{event_of, frame_from}
use Rattle.book.specs.Step.{or_nothing, does, step}
use Rattle.book.specs.Ready.{Ready}
use Rattle.book.proofs.Views.{read_allowed, octets_short}
use Rattle.state.proofs.Sounds.{ready}
use Rattle.room_laws.proofs.Bounds.{Fits, barred, fits_pick, fits_done, held_by, request_fits, end_fits, tick_fits, start_fits, reply_fits, data_fits, fin_fits, fin_ok_fits, abort_fits}

-- ---- a frame that was read

frame_short : (s : List ℕ) → ((i : ℕ) → octet s i < 256) → (r : Reading) → reading_in s ≡ r → length (read_octets r) ≤ 554
frame_short s small (bad n) e = omega arith
frame_short s small (good f n) e = octets_short f (read_allowed s f n small e)

read_short : (s : List ℕ) → ((i : ℕ) → octet s i < 256) → length (read_octets (reading_in s)) ≤ 554
read_short s small = frame_short s small (reading_in s) refl

held_short : (s : List ℕ) → ((i : ℕ) → octet s i < 256) → length (held_octets (or_nothing s)) ≤ 554
held_short [] small = omega arith
held_short (x ∷ s) small = read_short (x ∷ s) small

small_drop : (n : ℕ) (s : List ℕ) → ((i : ℕ) → octet s i < 256) → (i : ℕ) → octet (drop n s) i < 256
small_drop n s small i = rw get_or-drop (small (n + i))

-- ---- any event in any state

does_fits : (s : Setup) (e : Event) (f : List ℕ) (st : State) → length s.name ≤ 32 → length (waiting_of st) ≤ 8 → length (held_by st) ≤ 554
    → ((i : ℕ) → octet f i < 256) → Fits (does s e f st)
unfolding does
does_fits s Malformed f st n w k small = barred
does_fits s (Transfer c a) f st n w k small = request_fits c a (reading_in f) st (read_short f small)
does_fits s End f st n w k small = end_fits st
does_fits s Tick f st n w k small = tick_fits s n (late s st) st w
does_fits s (StartAsked a) f st n w k small = start_fits s n a (or_nothing f) st (held_short f small)
does_fits s (StartAnswered b) f st n w k small = reply_fits s n b (or_nothing f) st w k (held_short f small)
does_fits s Data f st n w k small = data_fits s n (reading_in f) st w (read_short f small)
does_fits s EndAsked f st n w k small = fin_fits s n st w
does_fits s (EndAnswered b) f st n w k small = fin_ok_fits s n b st w
does_fits s Aborted f st n w k small = abort_fits s n 0 st w
does_fits s Dropped f st n w k small = abort_fits s n 1 st w

-- ---- a sound unit

waiting_count : (s : Setup) (u : Value) (st : State) → u ≡ picture s st → length (waiting_of st) ≡ u.count
unfolding waiting_of
waiting_count s u idle e = rw e
waiting_count s u (single a w t) e = rw e
waiting_count s u (multi a k t) e = rw e
waiting_count s u (ending a w t) e = rw e
waiting_count s u (assoc a w t) e = rw e

kept_count : (s : Setup) (u : Value) (st : State) → u ≡ picture s st → length (held_by st) ≡ u.octets
kept_count s u idle e = rw e
kept_count s u (single a w t) e = rw e
kept_count s u (multi a k t) e = rw e
kept_count s u (ending a w t) e = rw e
kept_count s u (assoc a w t) e = rw e

pub step_fits : (rm : ℕ) (u : Value) (ev : List ℕ) → Ready u → ((i : ℕ) → octet ev i < 256) → Fits (step rm u ev)
unfolding step
step_fits rm u ev r small =
    let n : length (take u.letters u.name) ≤ 32 = omega (arith, r.named, r.wide, length-take-le u.letters u.name (omega (arith, r.named, r.wide))) in
    let w : length (waiting_of (state_of u)) ≤ 8 = omega (arith, r.few, waiting_count (setup_of u) u (state_of u) r.whole) in
    let k : length (held_by (state_of u)) ≤ 554 = omega (arith, r.held, kept_count (setup_of u) u (state_of u) r.whole) in
    fits_pick (ltb rm 1024) barred
    (fits_pick (sound_of u)
    (does_fits (setup_of u) (event_of ev) (drop (frame_from (event_of ev)) ev) (state_of u) n w k (small_drop (frame_from (event_of ev)) ev small)) barred)

pub room : (rm : ℕ) (u : Value) (ev : List ℕ) (st : State) (os : List Out)
    → sound_of u ≡ true
    → length u.name ≡ 32 → length u.waiting ≡ 8 → length u.kept ≡ 554 → ((i : ℕ) → get_or u.kept i 0 < 256)
    → ((i : ℕ) → octet ev i < 256)
    → step rm u ev ≡ done st os
    → (length (laid_out os) ≤ 1024) × (length os ≤ 10)
room rm u ev st os s wide eight long kept small e = fits_done (step_fits rm u ev (ready u s wide eight long kept) small) st os e
