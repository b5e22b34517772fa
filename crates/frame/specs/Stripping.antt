-- The frame without extensions of a received frame, and edition 1 frames.
-- "a frame without extensions has bit 7 clear" (01, "Events, lines and the listing").
use Rattle.std.specs.Prelude.{ℕ, ◌-◌, ◌%◌, List, [], ◌∷◌, Bool, false, length, take, drop, leb, ltb, eqb, None, Option, Some, Result, Ok, Err}
use Rattle.octets.specs.Choice.{pick, both}
use Rattle.frame.specs.Reading.{octet, reading_of}
use Rattle.frame.specs.declared.Fault.{Fault}
use Rattle.frame.specs.declared.Refusal.{Refusal}
use Rattle.frame.specs.declared.Refusal.TheVariants.{NoRoom, Faulty}
use Rattle.frame.specs.declared.Whole.{Whole}

-- bit 7 of octet 0 clear, and nothing from the place `end` on; nothing where that place is not within the frame
unfoldable pub bare_to : List ℕ → (end : ℕ) → List ℕ
bare_to s end = pick (both (leb 1 end) (leb end (length s))) (octet s 0 % 128 ∷ take (end - 1) (drop 1 s)) []

-- the frame without extensions, where it can be read
abbrev pub bare_in : List ℕ → Result Whole Fault → List ℕ
bare_in s (Ok w) = bare_to s w.header.end
bare_in s (Err f) = []

unfoldable pub bare : List ℕ → List ℕ
bare s = bare_in s (reading_of s)

-- stripping refuses with 6 below 1,024 octets, then with the frame's fault
abbrev pub fault_asked : Result Whole Fault → Option Refusal
fault_asked (Ok w) = None
fault_asked (Err f) = Some (Faulty f)

unfoldable pub strip_refusal : (room : ℕ) → List ℕ → Option Refusal
strip_refusal room s = pick (ltb room 1024) (Some NoRoom) (fault_asked (reading_of s))

-- an edition 1 frame: a valid frame that carries no extension fields
abbrev pub none_follow : Result Whole Fault → Bool
none_follow (Ok w) = eqb w.extensions 0
none_follow (Err f) = false

unfoldable pub edition_one : List ℕ → Bool
edition_one s = none_follow (reading_of s)
