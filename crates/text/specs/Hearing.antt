-- Lines heard one after the other: what a reader makes of the input that it is handed, however that is cut. Of any state, and of any answer to a line.
use Rattle.std.specs.Prelude.{ℕ, zero, suc, ◌+◌, ◌-◌, ◌≤◌, ◌<◌, ◌≡◌, Bool, true, false, List, [], ◌++◌, ltb, length, take, drop, None, Option, Some}
use Rattle.octets.specs.Choice.{pick, either}
use Rattle.octets.specs.Put.{Put}
use Rattle.text.specs.Reading.{to_feed}
use Rattle.text.specs.declared.hearing.Fed.{Fed}
use Rattle.text.specs.declared.hearing.Reader.{Reader}

-- ---- one line

-- what a line leaves and prints
pub record Answer (S : Type 0) : Type 0 where
  pub state : S
  pub text : List ℕ

-- a reader where it stands: its state, and whether a line that is too long is being passed over
pub record Standing (S : Type 0) : Type 0 where
  pub state : S
  pub passing : Bool

-- what was taken of the input, what the reader is then, and what to print
pub record Taken (S : Type 0) : Type 0 where
  pub reader : Standing S
  pub taken : ℕ
  pub text : List ℕ

module _ {S : Type 0} where
  abbrev pub heard : (taken : ℕ) → Answer S → Taken S
  heard n a = record { reader = record { state = a.state; passing = false }; taken = n; text = a.text }

  -- a line is passed over
  abbrev pub passing_over : Standing S → Standing S
  passing_over s = record { state = s.state; passing = true }

  -- no line feed yet: what is longer than a line may be is passed over, all else left for later
  abbrev pub not_ended : (longest : ℕ) → Standing S → List ℕ → Taken S
  not_ended longest s i =
      pick (either s.passing (ltb longest (length i))) (record { reader = passing_over s; taken = length i; text = [] })
      (record { reader = s; taken = 0; text = [] })

  -- the line at the front of the input; of a line that is passed over, its end
  unfoldable pub line_taken : (longest : ℕ) → (answer : S → Option (List ℕ) → Answer S) → Standing S → List ℕ → Taken S
  line_taken longest answer s i =
      pick (ltb (to_feed i) (length i)) (heard (to_feed i + 1) (answer s.state (pick s.passing None (Some (take (to_feed i) i)))))
      (not_ended longest s i)

-- ---- all lines for which there is room

pub record Feeding (S : Type 0) : Type 0 where
  pub reader : Standing S
  pub taken : ℕ
  pub written : List ℕ

module _ {S : Type 0} where
  abbrev pub resting : Standing S → Feeding S
  resting s = record { reader = s; taken = 0; written = [] }

  abbrev pub then : Taken S → Feeding S → Feeding S
  then t f = record { reader = f.reader; taken = t.taken + f.taken; written = t.text ++ f.written }

  -- one line after the other, at most `lines` of them, until there is no room for one more
  unfoldable pub feeding : (longest most : ℕ) → (answer : S → Option (List ℕ) → Answer S) → (lines room : ℕ) → Standing S → List ℕ → Feeding S
  feeding longest most answer zero room s i = resting s
  feeding longest most answer (suc n) room s i =
      pick (ltb room most) (resting s)
      (then (line_taken longest answer s i)
      (feeding longest most answer n (room - length (line_taken longest answer s i).text) (line_taken longest answer s i).reader
      (drop (line_taken longest answer s i).taken i)))

-- ---- the code's

module _ {H : Type 0} where
  -- no line feed yet, and nothing printed
  abbrev pub left_at : (longest : ℕ) → Reader H → (characters at : ℕ) → Fed (Reader H)
  left_at longest s n at =
      pick (either s.passing (ltb longest n)) (record { state = record { hearer = s.hearer; passing = true }; taken = n; written = at })
      (record { state = s; taken = 0; written = at })

module _ {H U S : Type 0} where
  -- the code's reader, with what is lent beside it
  abbrev pub standing : (state : H → U → S) → Reader H → (unit : U) → Standing S
  standing state s u = record { state = state s.hearer u; passing = s.passing }

  -- one line was answered: who hears on, where the next line starts, and what was printed from the place `at` on
  pub record Heard (state : H → U → S) (a : Answer S) (next most : ℕ) (before : List ℕ) (at : ℕ) (unit : U) (after : List ℕ) (r : Fed H) : Type 0 where
    pub state_is : state r.state unit ≡ a.state
    pub taken : r.taken ≡ next
    pub put : Put before at a.text after r.written
    pub small : r.written ≤ at + most

  -- the line at the front of the input was answered, where it has its line feed
  pub data Hears (state : H → U → S) (answer : S → Option (List ℕ) → Answer S) (most : ℕ) (h : H) (u : U) (i before : List ℕ) (at : ℕ) (unit : U)
      (after : List ℕ) : Option (Fed H) → Type 0 where
    ended : (r : Fed H) → to_feed i < length i → Heard state (answer (state h u) (Some (take (to_feed i) i))) (to_feed i + 1) most before at unit after r
        → Hears state answer most h u i before at unit after (Some r)
    unended : length i ≤ to_feed i → unit ≡ u → after ≡ before → Hears state answer most h u i before at unit after None

  -- one line of the input was taken, and its answer printed from the place `at` on
  pub record Takes (state : H → U → S) (t : Taken S) (most : ℕ) (before : List ℕ) (at : ℕ) (unit : U) (after : List ℕ) (r : Fed (Reader H)) : Type 0 where
    pub reader : standing state r.state unit ≡ t.reader
    pub taken : r.taken ≡ t.taken
    pub put : Put before at t.text after r.written
    pub small : r.written ≤ at + most

  -- all lines were taken for which there is room
  pub record Feeds (state : H → U → S) (f : Feeding S) (i before : List ℕ) (unit : U) (after : List ℕ) (r : Fed (Reader H)) : Type 0 where
    pub reader : standing state r.state unit ≡ f.reader
    pub taken : r.taken ≡ f.taken
    pub put : Put before 0 f.written after r.written
    -- no more than there is, and no more than has room
    pub within : r.taken ≤ length i
    pub fits : r.written ≤ length before
