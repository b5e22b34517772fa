-- The numbers of 01's table of faults, and of what the writer refuses with.
use Rattle.std.specs.Prelude.{ℕ}
use Rattle.frame.specs.declared.Fault.{Fault}
use Rattle.frame.specs.declared.Fault.TheVariants.{TooLong, Incomplete, BadOctet, BadLength, Lacking, LeftOver}
use Rattle.frame.specs.declared.Refusal.{Refusal}
use Rattle.frame.specs.declared.Refusal.TheVariants.{NoRoom, Faulty}

abbrev pub fault_number : Fault → ℕ
-- "over 1,024 octets"
fault_number TooLong = 11
-- "ends before a field is complete, empty frame included"
fault_number Incomplete = 12
-- "bit 1 of octet 0 set, confirmation above 4, or tag 0"
fault_number BadOctet = 13
-- "sender length 0 or above 32, data length above 512"
fault_number BadLength = 14
-- "a needed field is absent"
fault_number Lacking = 15
-- "octets left over with bit 7 clear"
fault_number LeftOver = 16

-- 6: "the lent buffer has fewer than 1,024 octets"; else a fault's number
abbrev pub refusal_number : Refusal → ℕ
refusal_number NoRoom = 6
refusal_number (Faulty f) = fault_number f
