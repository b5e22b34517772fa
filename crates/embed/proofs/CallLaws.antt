-- Laws of the calls: what setup and an event answer has room in a number.
use Prim.Native.Nat.{ℕ, ◌<◌, ◌≤◌}
use Rattle.std.specs.Prelude.{Result, Ok, Err}
use mathlib.Core.Path.{◌≡◌, refl, sym}
use mathlib.Core.Bool.{Bool, true, false}
use mathlib.Core.List.{List}
use native.Mathlib.Omega.{arith}
use borrow.Author.Tests.{le-ltb, ltb-false, eqb-true}
use lib.Dec.{ltb, eqb}
use lib.ListN.{length, get_or}
use Rattle.octets.specs.Choice.{pick}
use Rattle.frame.specs.Reading.{octet}
use Rattle.book.specs.Book.{Outcome, refused, done}
use Rattle.book.specs.Sound.{sound_of, within_limits}
use Rattle.book.specs.Step.{step, turn_of, set_up}
use Rattle.book.specs.declared.Unit.{Unit as Value}
use Rattle.book.specs.declared.Turn.{Turn}
use Rattle.book.specs.declared.Done.{Done}
use Rattle.book.specs.declared.Refusal.{Refusal}
use Rattle.book.specs.declared.Refusal.TheVariants.{NoRoom, BadSetup, Unsound}
use Rattle.room_laws.proofs.Room.{room}
use Rattle.image.specs.Image.{unit_of}
use Rattle.image.specs.Answer.{outcome_on, Handled}
use Rattle.image.specs.Answer as Image
use Rattle.image_laws.proofs.GoesOn.{wide, eight, long, kept_small, set_verdict}
use Rattle.embed.specs.Answer.{counted}

-- ---- an event

unsound : (rm : ℕ) (u : Value) (ev : List ℕ) → 1024 ≤ rm → sound_of u ≡ false → step rm u ev ≡ refused Unsound
unfolding step
unsound rm u ev h e = rw (le-ltb rm 1024 h, e)

-- what any unit answers to any event has room in a number
pub step_counts : (rm : ℕ) (u : Value) (ev : List ℕ) (t : Turn) → 1024 ≤ rm → length u.name ≡ 32 → length u.waiting ≡ 8 → length u.kept ≡ 554
    → ((i : ℕ) → get_or u.kept i 0 < 256) → ((i : ℕ) → octet ev i < 256) → t ≡ turn_of u (step rm u ev) → counted t.verdict < 4294967040
unfolding turn_of counted
step_counts rm u ev t h wide eight long kept small e = rw e (go (sound_of u) refl (step rm u ev) refl)
  where
    go : (b : Bool) → b ≡ sound_of u → (o : Outcome) → step rm u ev ≡ o → counted (turn_of u o).verdict < 4294967040
    go b p (refused n) q = omega arith
    go true p (done st os) q = let r = room rm u ev st os (sym p) wide eight long kept small q in omega (arith, r.0, r.1)
    go false p (done st os) q = let z : ◌≡◌ {A = ℕ} 0 1 = let w = unsound rm u ev h (sym p) in cc in absurd (omega arith)

-- what the engine answers to any event has room in a number
pub handled_counts : (image ev out : List ℕ) {v : Result Done Refusal} {after out' : List ℕ} → ((i : ℕ) → octet image i < 256) → ((i : ℕ) → octet ev i < 256)
    → Handled image ev out v after out' → counted v < 4294967040
unfolding outcome_on turn_of counted
handled_counts image ev out {v} small smallEvent h =
    rw h.verdict (go (ltb (length out) 1024) refl (eqb (length image) 618) refl)
  where
    go : (a : Bool) → a ≡ ltb (length out) 1024 → (b : Bool) → b ≡ eqb (length image) 618
        → counted (turn_of (unit_of image) (pick a (refused NoRoom) (pick b (step (length out) (unit_of image) ev) (refused Unsound)))).verdict < 4294967040
    go true p b q = omega arith
    go false p false q = omega arith
    go false p true q =
        let e = eqb-true (length image) 618 (sym q) in
        step_counts (length out) (unit_of image) ev (turn_of (unit_of image) (step (length out) (unit_of image) ev)) (ltb-false (length out) 1024 (sym p))
        (wide image e small) (eight image e small) (long image e small) (kept_small image e small) smallEvent refl

-- an image of 617 octets is none, whatever it holds
pub short_image : (room : ℕ) (image ev : List ℕ) → 1024 ≤ room → length image ≡ 617 → outcome_on room image ev ≡ refused Unsound
unfolding outcome_on
short_image room image ev h e = rw (le-ltb room 1024 h, e)

-- ---- setup

verdict_counts : (a b c : ℕ) (name : List ℕ) → counted (set_up a b c name).verdict < 4294967040
unfolding set_up counted
verdict_counts a b c name = go (within_limits a b c (length name)) _ _
  where
    go : (w : Bool) (x y : Value) → counted (pick {A = Turn} w (record { unit = x; verdict = Ok (record { lines = 0; octets = 0 }) }) (record { unit = y; verdict = Err BadSetup })).verdict < 4294967040
    go true x y = omega arith
    go false x y = omega arith

pub setup_counts : (a b c : ℕ) (name image : List ℕ) → length image ≡ 618 → {v : Result Done Refusal} {after : List ℕ} → Image.SetsUp a b c name image v after
    → counted v < 4294967040
setup_counts a b c name image n h = rw (set_verdict a b c name image n h) (verdict_counts a b c name)
