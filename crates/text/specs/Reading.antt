-- A line of the listing's input. 01, "Events, lines and the listing".
use Rattle.std.specs.Prelude.{ℕ, suc, ◌+◌, ◌*◌, List, [], ◌∷◌, eqb, ltb, leb, length, take, drop, None, Option, Some}
use Rattle.std.specs.Borrow.{Bor}
use Rattle.octets.specs.Choice.{pick, both}
use Rattle.text.specs.Digits.{value_of, octet_of}
use Rattle.text.specs.declared.Line.{Line}

-- an octet and those after it; none where it is none
abbrev pub led : Option ℕ → List ℕ → List ℕ
led (Some x) xs = x ∷ xs
led None xs = []

-- the octets of the pairs of digits at the front
unfoldable pub leading : List ℕ → List ℕ
leading [] = []
leading (a ∷ []) = []
leading (a ∷ (b ∷ s)) = led (octet_of (value_of a) (value_of b)) (leading s)

-- "each line ended by a line feed": how many characters stand before the first one, or at all
unfoldable pub to_feed : List ℕ → ℕ
to_feed [] = 0
to_feed (c ∷ s) = pick (eqb c 10) 0 (suc (to_feed s))

unfoldable pub feed_from : List ℕ → ℕ → ℕ
feed_from s from = from + to_feed (drop from s)

-- "an empty line, an odd count, a foreign character, a longer line" has no event: "one event a line, at most 4,096 digits"
unfoldable pub event_in : List ℕ → Option (List ℕ)
event_in line =
    pick (both (ltb 0 (length line)) (both (leb (length line) 4096) (eqb (2 * length (leading line)) (length line)))) (Some (leading line)) None

-- the answer for a line's event, and the place after its line feed
abbrev pub said : Option (List ℕ) → ℕ → Line
said None next = record { octets = None; next = next }
said (Some octets) next = record { octets = Some (length octets); next = next }

-- the line at the front of the input; none where it has no line feed yet
unfoldable pub line_in : List ℕ → Option Line
line_in s = pick (ltb (to_feed s) (length s)) (Some (said (event_in (take (to_feed s) s)) (to_feed s + 1))) None

-- what lent octets hold, where there are any
abbrev pub held_in : Option (Bor (List ℕ)) → Option (List ℕ)
held_in None = None
held_in (Some e) = Some e.now
