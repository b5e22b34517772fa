-- A unit that a program in C or Rust holds as an image goes on as the unit itself: what setup writes stands for the new unit, and after each event the
-- image stands for the unit after it, sound again. So a program that starts by setup, and hands back what it was given, never meets refusal 9. Closed by
-- the same laws over the engine's contracts (image_laws).
use Prim.Native.Nat.{ℕ, ◌<◌}
use mathlib.Core.Path.{◌≡◌, refl}
use mathlib.Core.Bool.{true}
use mathlib.Core.List.{List}
use lib.ListN.{length}
use Rattle.frame.specs.Reading.{octet}
use Rattle.book.specs.Sound.{within_limits, sound_of}
use Rattle.book.specs.Step.{step, turn_of, set_up}
use Rattle.image.specs.Image.{unit_of}
use Rattle.image_laws.proofs.GoesOn as Image
use Rattle.embed.specs.Answer.{Answers, SetsUp}

pub starts : (a b c : ℕ) (name image : List ℕ) {r : ℕ} {after : List ℕ} → length image ≡ 618 → within_limits a b c (length name) ≡ true
    → SetsUp a b c name image r after → (unit_of after ≡ (set_up a b c name).unit) × (sound_of (unit_of after) ≡ true)
starts a b c name image e w h = Image.starts a b c name image e (record { verdict = refl; image = h.image }) w

pub goes_on : (image ev out : List ℕ) {r : ℕ} {after out' : List ℕ} → length image ≡ 618 → ((i : ℕ) → octet image i < 256) → ((i : ℕ) → octet ev i < 256)
    → sound_of (unit_of image) ≡ true → Answers image ev out r after out'
    → (unit_of after ≡ (turn_of (unit_of image) (step (length out) (unit_of image) ev)).unit) × (sound_of (unit_of after) ≡ true)
goes_on image ev out e small smallEvent sound h =
    Image.goes_on image ev out e small smallEvent (record { verdict = refl; image = h.image; buffer = h.buffer }) sound
