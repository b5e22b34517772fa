-- What the calls answer: one number, the image and the lent buffer.
use Rattle.std.specs.Prelude.{ℕ, ◌+◌, ◌*◌, ◌≡◌, List, length, eqb, Result, Ok, Err}
use Rattle.std.proofs.lemmas.List.Edits.{sets}
use Rattle.octets.specs.Choice.{pick}
use Rattle.book.specs.Step.{octets_of, set_up}
use Rattle.book.specs.Refusals.{refusal_number}
use Rattle.book.specs.declared.Done.{Done}
use Rattle.book.specs.declared.Refusal.{Refusal}
use Rattle.book.specs.declared.Refusal.TheVariants.{NoRoom}
use Rattle.image.specs.Image.{image_of}
use Rattle.image.specs.Answer.{outcome_on, image_after, turn_on}

-- 0xffffff00 and the number of a refusal
abbrev pub refused : ℕ → ℕ
refused n = 0xffffff00 + n

-- 65,536 for each line, and the octets that they take in the buffer; or the refusal
unfoldable pub number_of : Result Done Refusal → ℕ
number_of (Ok d) = 65536 * d.lines + d.octets
number_of (Err r) = refused (refusal_number r)

-- what is counted of an event taken (of a refusal nothing), so that it has room in the number
unfoldable pub counted : Result Done Refusal → ℕ
counted (Ok d) = 65536 * d.lines + d.octets
counted (Err r) = 0

-- ---- one event

-- what `stelquorum_event` answers, the whole image, and the whole buffer
pub record Answers (before event out : List ℕ) (r : ℕ) (after out' : List ℕ) : Type 0 where
  pub number : r ≡ number_of (turn_on (length out) before event).verdict
  pub image : after ≡ image_after before (turn_on (length out) before event).unit (turn_on (length out) before event).verdict
  pub buffer : out' ≡ sets out 0 (octets_of (outcome_on (length out) before event))

-- ---- setup

-- what `stelquorum_setup` answers, and the whole image: "a refused setup returns a unit with every number 0"; 6 where the block lent for the image
-- isn't one of 618 octets
pub record SetsUp (start end inactivity : ℕ) (name before : List ℕ) (r : ℕ) (after : List ℕ) : Type 0 where
  pub number : r ≡ pick (eqb (length before) 618) (number_of (set_up start end inactivity name).verdict) (refused (refusal_number NoRoom))
  pub image : after ≡ pick (eqb (length before) 618) (image_of (set_up start end inactivity name).unit) before
