-- The lines that lie in a buffer, each as a 2-octet length and its octets. For the functions of this crate; no public contract speaks of it.
use Rattle.std.specs.Prelude.{ℕ, zero, suc, ◌+◌, ◌*◌, ◌≤◌, ◌<◌, ◌≡◌, List, [], ◌∷◌, ◌++◌, take, drop, get_or, Result, Ok, Err}
use Rattle.octets.specs.Put.{Put}
use Rattle.book.specs.declared.Done.{Done}
use Rattle.book.specs.declared.Refusal.{Refusal}
use Rattle.book.specs.declared.Unit.{Unit as Value}
use Rattle.book.specs.declared.Turn.{Turn}
use Rattle.book.specs.Book.{Outcome}
use Rattle.book.specs.Step.{turn_of}
use Rattle.image.specs.Image.{unit_of}
use Rattle.session.specs.Listing.{Answer, refusal_line, state_line, outcome_lines, text}
use Rattle.session.specs.Feeding.{most}
use Rattle.session.specs.declared.answers.Said.{Said}
use Rattle.session.specs.declared.Phase.TheVariants.{Running}

-- the length at the front
abbrev pub length_at : List ℕ → ℕ
length_at s = 256 * get_or s 0 0 + get_or s 1 0

-- the first n lines
unfoldable pub lines_in : ℕ → List ℕ → List (List ℕ)
lines_in zero s = []
lines_in (suc n) s = take (length_at s) (drop 2 s) ∷ lines_in n (drop (2 + length_at s) s)

-- how many octets they take, with their lengths
unfoldable pub size_of : ℕ → List ℕ → ℕ
size_of zero s = 0
size_of (suc n) s = 2 + length_at s + size_of n (drop (2 + length_at s) s)

-- an answer's lines
abbrev pub verdict_lines : Result Done Refusal → List ℕ → List (List ℕ)
verdict_lines (Ok d) s = lines_in d.lines s
verdict_lines (Err r) s = refusal_line r ∷ []

abbrev pub verdict_size : Result Done Refusal → List ℕ → ℕ
verdict_size (Ok d) s = size_of d.lines s
verdict_size (Err r) s = 0

-- what a first line leaves: the verdict, and the image of the unit
pub record Begins (t : Turn) (r : Result Done Refusal) (image : List ℕ) : Type 0 where
  pub verdict : r ≡ t.verdict
  pub unit : unit_of image ≡ t.unit

-- what a unit laid at an event: its lines in the buffer, and the image of the next unit
pub record Lays (u : Value) (o : Outcome) (r : Result Done Refusal) (image laid : List ℕ) : Type 0 where
  pub lines : verdict_lines r laid ≡ outcome_lines o
  pub size : verdict_size r laid ≤ 1024
  pub unit : unit_of image ≡ (turn_of u o).unit

-- a line was answered: the phase and the unit after it, and its lines printed from the place `at` on
pub record Says (a : Answer) (before : List ℕ) (at : ℕ) (image after : List ℕ) (r : Said) : Type 0 where
  pub phase : r.phase ≡ a.phase
  pub unit : unit_of image ≡ a.unit
  pub put : Put before at (text a.lines) after r.end
  pub small : r.end ≤ at + most

-- a session that goes on with a unit: some lines, and the state
abbrev pub stated : Value → (lines : List (List ℕ)) → Answer
stated u ls = record { phase = Running; unit = u; lines = ls ++ (state_line u ∷ []) }

-- what the type of a block's octets says of them
pub record Octets (block : List ℕ) : Type 0 where
  pub small : (i : ℕ) → get_or block i 0 < 256
