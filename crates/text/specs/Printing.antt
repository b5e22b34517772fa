-- A line of the listing's output. 01, "Events, lines and the listing": "each in the same hexadecimal on a line of its own, without length octets".
use Rattle.std.specs.Prelude.{ℕ, ◌+◌, ◌*◌, ◌/◌, ◌%◌, Bool, List, [], ◌∷◌, ◌++◌, ltb, leb, length}
use Rattle.octets.specs.Choice.{pick}

-- the digit of a value under 16: '0' to '9', 'a' to 'f'
unfoldable pub digit_of : ℕ → ℕ
digit_of v = pick (ltb v 10) (48 + v) (87 + v)

-- two digits an octet, the higher first
unfoldable pub digits_of : List ℕ → List ℕ
digits_of [] = []
digits_of (x ∷ xs) = digit_of (x / 16) ∷ (digit_of (x % 16) ∷ digits_of xs)

-- a line: its digits and a line feed
unfoldable pub printed : List ℕ → List ℕ
printed line = digits_of line ++ (10 ∷ [])

-- whether a line of n octets has room from the place `at` on
unfoldable pub fits : ℕ → ℕ → ℕ → Bool
fits room at n = leb (at + (2 * n + 1)) room

-- what is printed from the place `at` on: the whole line, or nothing where it has no room
unfoldable pub printed_in : ℕ → ℕ → List ℕ → List ℕ
printed_in room at line = pick (fits room at (length line)) (printed line) []
