-- One line taken. For the functions of this crate; no public contract speaks of it.
use Rattle.std.specs.Prelude.{ℕ, ◌+◌, ◌≤◌, ◌<◌, ◌≡◌, Bool, List, length, take, None, Option, Some}
use Rattle.text.specs.Reading.{to_feed, event_in}
use Rattle.text.specs.Hearing.{Heard}
use Rattle.text.specs.declared.hearing.Fed.{Fed}
use Rattle.words.specs.Lines.{words_of}
use Rattle.words.specs.Feeding.{indented_of, line_text, most}
use Rattle.words.specs.declared.Explainer.{Explainer}

-- the words were printed on a line of their own, and the next line starts at `next`
abbrev pub Explains : Explainer → (words : List ℕ) → (next : ℕ) → (before : List ℕ) → (at : ℕ) → (after : List ℕ) → Fed Explainer → Type 0
Explains h words next before at after r = Heard indented_of (record { state = h.indented; text = line_text h.indented words }) next most before at tt after r

-- digits that begin n characters behind the front of the input were explained, where they have their line feed
pub data Digits (h : Explainer) (framed : Bool) (n : ℕ) (d before : List ℕ) (at : ℕ) (after : List ℕ) : Option (Fed Explainer) → Type 0 where
  read : (r : Fed Explainer) → to_feed d < length d → Explains h (words_of framed (event_in (take (to_feed d) d))) (n + (to_feed d + 1)) before at after r
      → Digits h framed n d before at after (Some r)
  waits : length d ≤ to_feed d → after ≡ before → Digits h framed n d before at after None
