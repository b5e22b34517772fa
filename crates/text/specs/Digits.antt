-- Digits. 01, "Events, lines and the listing": "lower-case hexadecimal".
use Rattle.std.specs.Prelude.{ℕ, ◌+◌, ◌-◌, ◌*◌, leb, None, Option, Some}
use Rattle.octets.specs.Choice.{pick, both}

-- the value of a character: '0' to '9', 'a' to 'f'; none of a foreign one
unfoldable pub value_of : ℕ → Option ℕ
value_of c = pick (both (leb 48 c) (leb c 57)) (Some (c - 48)) (pick (both (leb 97 c) (leb c 102)) (Some (c - 87)) None)

-- the octet of two digits, the higher one first
abbrev pub octet_of : Option ℕ → Option ℕ → Option ℕ
octet_of (Some high) (Some low) = Some (16 * high + low)
octet_of (Some high) None = None
octet_of None low = None
