-- The explanation of a whole input, and in parts: what a reader makes of the input that it is handed, however that is cut. That the parts give the
-- whole is a theorem (proofs/Whole).
use Rattle.std.specs.Prelude.{ℕ, Bool, true, false, List, [], ◌∷◌, ◌++◌, eqb, ltb, length, None, Option, Some}
use Rattle.octets.specs.Choice.{pick, either}
use Rattle.text.specs.Hearing as Hearing
use Rattle.text.specs.Hearing.{Answer, Standing, Taken, Feeding}
use Rattle.text.specs.declared.hearing.Fed.{Fed}
use Rattle.text.specs.declared.hearing.Reader.{Reader}
use Rattle.phrases.specs.Spelling.{spelled}
use Rattle.words.specs.Lines.{no_digits, explained}
use Rattle.words.specs.declared.Explainer.{Explainer}

-- ---- the whole

-- two spaces, where lines are indented
abbrev pub margin : (indented : Bool) → List ℕ
margin true = spelled "  "
margin false = []

-- an explanation on a line of its own
unfoldable pub line_text : (indented : Bool) → (words : List ℕ) → List ℕ
line_text indented words = margin indented ++ words ++ (10 ∷ [])

-- a last line without its line feed, where there is one
abbrev pub unended : (indented : Bool) → (line : List ℕ) → List ℕ
unended m [] = []
unended m (c ∷ line) = line_text m no_digits

-- `line` is what stands of the first line already
unfoldable pub explanation_from : (indented : Bool) → (line : List ℕ) → List ℕ → List ℕ
explanation_from m line [] = unended m line
explanation_from m line (c ∷ s) = pick (eqb c 10) (line_text m (explained line) ++ explanation_from m [] s) (explanation_from m (line ++ (c ∷ [])) s)

-- the output of `explain` for an input
unfoldable pub explanation : (indented : Bool) → List ℕ → List ℕ
explanation m input = explanation_from m [] input

-- ---- one line

-- the code's, whatever is lent beside it
abbrev pub indented_of : Explainer → Unit {0} → Bool
indented_of h u = h.indented

abbrev pub standing : Reader Explainer → Standing Bool
standing s = Hearing.standing indented_of s tt

-- before the first line
abbrev pub fresh : (indented : Bool) → Reader Explainer
fresh m = record { hearer = record { indented = m }; passing = false }

-- the characters of the longest line: the word for a frame and 4,096 digits
abbrev pub longest : ℕ
longest = 4102

-- what is said of a line; of one that was too long, that it is none
abbrev pub answer : (indented : Bool) → Option (List ℕ) → Answer Bool
answer m None = record { state = m; text = line_text m no_digits }
answer m (Some line) = record { state = m; text = line_text m (explained line) }

-- the line at the front of the input; of a line that is passed over, its end
abbrev pub line_taken : Standing Bool → List ℕ → Taken Bool
line_taken = Hearing.line_taken longest answer

-- ---- all lines for which there is room

-- the octets that one line of the input may print
abbrev pub most : ℕ
most = 512

-- one line after the other, at most `lines` of them, until there is no room for one more
abbrev pub feeding : (lines room : ℕ) → Standing Bool → List ℕ → Feeding Bool
feeding = Hearing.feeding longest most answer

-- what `feed` answers, and the whole buffer
abbrev pub Feeds : Standing Bool → (i before : List ℕ) → Fed (Reader Explainer) → (after : List ℕ) → Type 0
Feeds s i before r after = Hearing.Feeds indented_of (feeding (length i) (length before) s i) i before tt after r

-- ---- the end of the input

-- the last line, where one stands without its line feed
unfoldable pub finishing : (room : ℕ) → Standing Bool → (held : List ℕ) → List ℕ
finishing room s held =
    pick (ltb room most) [] (pick (either s.passing (ltb 0 (length held))) (line_text s.state no_digits) [])
