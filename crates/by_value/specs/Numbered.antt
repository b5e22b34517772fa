-- What the by-value engine answers to a program in C or Rust: a refusal's number, the image, and the lent buffer, each to the last octet.
use Rattle.std.specs.Prelude.{ℕ, ◌≡◌, List, length, Result, Ok, Err}
use Rattle.std.proofs.lemmas.List.Edits.{sets}
use Rattle.book.specs.Step.{octets_of}
use Rattle.book.specs.Refusals.{refusal_number}
use Rattle.book.specs.declared.Done.{Done}
use Rattle.book.specs.declared.Refusal.{Refusal}
use Rattle.image.specs.Answer.{outcome_on, image_after, turn_on}

-- no refusal has the number 0
unfoldable pub refusal_in : Result Done Refusal → ℕ
refusal_in (Ok d) = 0
refusal_in (Err r) = refusal_number r

pub record Numbered (before event out : List ℕ) (r : ℕ) (after out' : List ℕ) : Type 0 where
  pub number : r ≡ refusal_in (turn_on (length out) before event).verdict
  pub image : after ≡ image_after before (turn_on (length out) before event).unit (turn_on (length out) before event).verdict
  pub buffer : out' ≡ sets out 0 (octets_of (outcome_on (length out) before event))
