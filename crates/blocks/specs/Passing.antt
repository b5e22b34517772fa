-- What becomes of the octets of an input: each goes to the teller once, in the order in which it was read, but for those that are held at the end.
use Rattle.std.specs.Prelude.{◌≡◌, ℕ, List, [], ◌++◌, Option}
use Rattle.std.specs.Io.KnownBytes.{Consumes}

-- calls of a teller, one after the other, over the octets that they took
pub data Chain {S : Type 0} (takes : S → List ℕ → S → Type 0) : S → List ℕ → S → Type 0 where
  none : {s : S} → Chain takes s [] s
  more : {s t u : S} {xs ys : List ℕ} → Chain takes s xs t → takes t ys u → Chain takes s (xs ++ ys) u

-- From a teller `s` and a reader of which `before` was left to a teller `t` and a reader of which `after` is left, `front` being held at first and
-- `held` in the end: what was held and what was read is what was told and what is held now. Where a reader's bytes are not known (None), nothing is
-- said of what it read.
pub record Passed {S : Type 0} (takes : S → List ℕ → S → Type 0) (s : S) (front : List ℕ) (before : Option (List ℕ)) (t : S) (after : Option (List ℕ)) (held : List ℕ) : Type 0 where
  pub told : List ℕ
  pub read : List ℕ
  pub chain : Chain takes s told t
  pub consumed : Consumes before after read
  pub whole : front ++ read ≡ told ++ held
