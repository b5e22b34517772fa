-- Words, numbers and octets as a person reads them. A text in quotes is spelled by the codes of its characters; all texts here are ASCII.
use Rattle.std.specs.Prelude.{ℕ, zero, suc, ◌+◌, ◌/◌, ◌%◌, Bool, not, List, [], ◌∷◌, ◌++◌, eqb, ltb, leb, length, take}
use Rattle.std.specs.List.{list_all}
use Prim.Native.Char.{code}
use Prim.Native.String.{String, [] as nothing, ◌∷◌ as ◌then◌}
use Rattle.octets.specs.Choice.{pick, both, either}
use Rattle.text.specs.Printing.{digits_of}

abbrev pub spelled : String → List ℕ
spelled nothing = []
spelled (c then s) = code c ∷ spelled s

-- ---- numbers

-- the last decimal digit of a number
abbrev pub digit : ℕ → ℕ
digit n = 48 + n % 10

-- the digit of a power of ten, where the number has it
abbrev pub digit_at : (n power : ℕ) → List ℕ
digit_at n power = pick (ltb n power) [] (digit (n / power) ∷ [])

-- a number in decimal, with at most so many digits more than one
unfoldable pub decimal_in : (more : ℕ) → ℕ → List ℕ
decimal_in zero n = digit n ∷ []
decimal_in (suc k) n = pick (ltb n 10) (digit n ∷ []) (decimal_in k (n / 10) ++ (digit n ∷ []))

-- a number below 100,000 in decimal, without leading zeros; every number that is said is below 65,536
abbrev pub decimal : ℕ → List ℕ
decimal n = decimal_in 4 n

-- ---- octets

-- a character that is shown as it is: 32 to 126, and neither the quote (34) nor the backslash (92)
unfoldable pub printable : ℕ → Bool
printable c = both (both (leb 32 c) (leb c 126)) (not (either (eqb c 34) (eqb c 92)))

abbrev pub quote : List ℕ
quote = 34 ∷ []

-- octets as text in quotes where each is printable, else in hexadecimal
unfoldable pub shown : List ℕ → List ℕ
shown s = pick (list_all printable s) (quote ++ s ++ quote) (spelled "octets " ++ digits_of s)

abbrev pub more_words : ℕ → List ℕ
more_words n = pick (ltb 32 n) (spelled " ...") []

-- the first 32 octets, and a sign where there are more
unfoldable pub beginning : List ℕ → List ℕ
beginning s = shown (take 32 s) ++ more_words (length s)
