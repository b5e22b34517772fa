-- What one call over a lent image answers: the verdict, the image, and the lent buffer, each to the last octet.
use Rattle.std.specs.Prelude.{ℕ, ◌≡◌, List, length, ltb, eqb, Result, Ok, Err}
use Rattle.std.proofs.lemmas.List.Edits.{sets}
use Rattle.octets.specs.Choice.{pick}
use Rattle.book.specs.Book.{Outcome, refused}
use Rattle.book.specs.Step.{step, turn_of, octets_of, set_up}
use Rattle.book.specs.declared.Unit.{Unit as Value}
use Rattle.book.specs.declared.Turn.{Turn}
use Rattle.book.specs.declared.Done.{Done}
use Rattle.book.specs.declared.Refusal.{Refusal}
use Rattle.book.specs.declared.Refusal.TheVariants.{NoRoom, Unsound}
use Rattle.image.specs.Image.{unit_of, image_of}

-- "Order: 6, 9, 8": a short buffer; an image that is none, or of a unit that isn't sound; and then as the unit itself
unfoldable pub outcome_on : (room : ℕ) (image event : List ℕ) → Outcome
outcome_on room image event =
    pick (ltb room 1024) (refused NoRoom) (pick (eqb (length image) 618) (step room (unit_of image) event) (refused Unsound))

-- the image after a turn: "Every refusal returns … the unit unchanged"
unfoldable pub image_after : (image : List ℕ) → Value → Result Done Refusal → List ℕ
image_after image u (Ok d) = image_of u
image_after image u (Err r) = image

abbrev pub turn_on : (room : ℕ) (image event : List ℕ) → Turn
turn_on room image event = turn_of (unit_of image) (outcome_on room image event)

-- the verdict, the whole image, and the whole buffer
pub record Handled (before event out : List ℕ) (r : Result Done Refusal) (after out' : List ℕ) : Type 0 where
  pub verdict : r ≡ (turn_on (length out) before event).verdict
  pub image : after ≡ image_after before (turn_on (length out) before event).unit (turn_on (length out) before event).verdict
  pub buffer : out' ≡ sets out 0 (octets_of (outcome_on (length out) before event))

-- ---- setup

-- the verdict and the whole image: "a refused setup returns a unit with every number 0"; 9 where the block lent for the image isn't one of 618 octets
pub record SetsUp (start end inactivity : ℕ) (name before : List ℕ) (r : Result Done Refusal) (after : List ℕ) : Type 0 where
  pub verdict : r ≡ pick (eqb (length before) 618) (set_up start end inactivity name).verdict (Err Unsound)
  pub image : after ≡ pick (eqb (length before) 618) (image_of (set_up start end inactivity name).unit) before
