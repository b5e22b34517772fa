-- The numbers of 01's "Refusal numbers".
use Rattle.std.specs.Prelude.{ℕ}
use Rattle.book.specs.declared.Refusal.{Refusal}
use Rattle.book.specs.declared.Refusal.TheVariants.{WrongState, BadFrame, OtherTerms, Waits, Full, NoRoom, BadSetup, NoEvent, Unsound}

abbrev pub refusal_number : Refusal → ℕ
-- "the state doesn't take this event"
refusal_number WrongState = 1
-- "the frame of 01 or 02 has a fault or extensions, or its confirmation isn't 0 for 01, 1 for 02"
refusal_number BadFrame = 2
-- "a multi-shot request in Associated has terms other than the dialogue's"
refusal_number OtherTerms = 3
-- "the identifier of an 02 is already waiting"
refusal_number Waits = 4
-- "an 02 comes while eight identifiers are waiting (01 is still taken)"
refusal_number Full = 5
-- "the lent buffer has fewer than 1,024 octets"
refusal_number NoRoom = 6
-- "setup is outside its limits"
refusal_number BadSetup = 7
-- "event empty, kind unknown, body shorter than its fixed part, octets after a kind that carries no frame, result or RER out of range"
refusal_number NoEvent = 8
-- "the unit handed in isn't sound"
refusal_number Unsound = 9
