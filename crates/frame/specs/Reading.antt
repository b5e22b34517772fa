-- Reading a frame, left to right, to where its fields stand (01, "The message frame").
-- "Reading is left to right and the first fault is the answer, but 11 is tested first and 15 straight after octet 1. A length out of range is
-- found before octets are missed."
use Rattle.std.specs.Prelude.{ℕ, zero, suc, ◌+◌, ◌*◌, ◌/◌, ◌%◌, List, Bool, not, length, get_or, ltb, leb, eqb, None, Option, Some, Result, Ok, Err}
use Rattle.octets.specs.Choice.{pick, either}
use Rattle.frame.specs.Message.{lacks}
use Rattle.frame.specs.declared.Fault.{Fault}
use Rattle.frame.specs.declared.Fault.TheVariants.{TooLong, Incomplete, BadOctet, BadLength, Lacking, LeftOver}
use Rattle.frame.specs.declared.Place.{Place}
use Rattle.frame.specs.declared.Whole.{Whole}

-- octet i
abbrev pub octet : List ℕ → ℕ → ℕ
octet s i = get_or s i 0

-- "Numbers are big-endian": a number of two octets
abbrev pub number : List ℕ → ℕ → ℕ
number s at = octet s at * 256 + octet s (at + 1)

-- the bit of that weight: 128 for bit 7, .., 1 for bit 0
abbrev pub bit : ℕ → ℕ → Bool
bit flags weight = eqb (flags / weight % 2) 1

-- n octets stand at `at`
abbrev pub room : List ℕ → ℕ → ℕ → Bool
room s at n = leb (at + n) (length s)

-- ---- what the readers answer: `Err` with the fault, or `Ok` with what was read

-- a field that is there: where its octets stand (after its length, where it has one), and how many they are
abbrev pub at_place : (start len : ℕ) → Option Place
at_place start len = Some (record { start = start; len = len })

-- a field reader's: the field, and the place after it
abbrev pub Step : Type 0
Step = Result (Option Place × ℕ) Fault

-- An answer of two values, and what is made of it: "the first fault is the answer".
abbrev pub and_then : {A B C : Type 0} → Result (A × B) Fault → (A → B → Result C Fault) → Result C Fault
and_then (Ok x) k = k x.0 x.1
and_then (Err f) k = Err f

-- the same of an answer of one value
abbrev pub at_end : {A B : Type 0} → Result A Fault → (A → Result B Fault) → Result B Fault
at_end (Ok x) k = k x
at_end (Err f) k = Err f

-- ---- the readers

-- Octets 0 and 1. "11 is tested first and 15 straight after octet 1"; 13 is "bit 1 of octet 0 set, confirmation above 4".
unfoldable pub opened : List ℕ → Result (ℕ × ℕ) Fault
opened s =
    pick (ltb 1024 (length s)) (Err TooLong)
    (pick (not (room s 0 1)) (Err Incomplete)
    (pick (bit (octet s 0) 2) (Err BadOctet)
    (pick (not (room s 1 1)) (Err Incomplete)
    (pick (ltb 4 (octet s 1)) (Err BadOctet)
    (pick (lacks (octet s 1) (bit (octet s 0) 32) (bit (octet s 0) 16) (bit (octet s 0) 8)) (Err Lacking)
    (Ok (octet s 0, octet s 1)))))))

-- n octets that are to be there: 12, "ends before a field is complete"
unfoldable pub octets_at : List ℕ → ℕ → ℕ → Step
octets_at s n at = pick (room s at n) (Ok (at_place at n, at + n)) (Err Incomplete)

-- "type, 1 octet; identifier, 2; reference, 2": a field of n octets, where it is present
unfoldable pub fixed_at : List ℕ → (present : Bool) → ℕ → ℕ → Step
fixed_at s present n at = pick present (octets_at s n at) (Ok (None, at))

-- "sender, a length octet 1..32 and its octets"; 14 is "sender length 0 or above 32"
unfoldable pub sender_at : List ℕ → (present : Bool) → ℕ → Step
sender_at s present at =
    pick present
    (pick (not (room s at 1)) (Err Incomplete)
    (pick (either (eqb (octet s at) 0) (ltb 32 (octet s at))) (Err BadLength)
    (octets_at s (octet s at) (at + 1))))
    (Ok (None, at))

-- "userData, a 2-octet length 0..512 and its octets"; 14 is "data length above 512"
unfoldable pub data_at : List ℕ → (present : Bool) → ℕ → Step
data_at s present at =
    pick present
    (pick (not (room s at 2)) (Err Incomplete)
    (pick (ltb 512 (number s at)) (Err BadLength)
    (octets_at s (number s at) (at + 2))))
    (Ok (None, at))

-- an extension field, "tag 1..255, length 0..255, octets"; 13 is "tag 0"
unfoldable pub extension_at : List ℕ → ℕ → Step
extension_at s at =
    pick (not (room s at 1)) (Err Incomplete)
    (pick (eqb (octet s at) 0) (Err BadOctet)
    (pick (not (room s (at + 1) 1)) (Err Incomplete)
    (octets_at s (octet s (at + 1)) (at + 2))))

-- extension fields up to the end, n having gone before: "Tags may repeat". Each takes two octets or more, so `length s` turns are enough.
unfoldable pub extensions_from : (turns : ℕ) → List ℕ → ℕ → ℕ → Result ℕ Fault
extensions_from zero s at n = Ok n
extensions_from (suc turns) s at n =
    pick (leb (length s) at) (Ok n)
    (and_then (extension_at s at) (λ _ next. extensions_from turns s next (n + 1)))

-- What follows the fields. "With bit 7 set, one or more extension fields fill the rest (none at all is 12)"; 16 is "octets left over with bit 7
-- clear".
unfoldable pub rest_at : List ℕ → (follow : Bool) → ℕ → Result ℕ Fault
rest_at s follow at =
    pick follow
    (pick (leb (length s) at) (Err Incomplete) (extensions_from (length s) s at 0))
    (pick (leb (length s) at) (Ok 0) (Err LeftOver))

-- "Then the present fields in this order": type, identifier, reference, sender, userData
unfoldable pub fields_of : List ℕ → (flags confirmation : ℕ) → Result Whole Fault
fields_of s flags confirmation =
    and_then (fixed_at s (bit flags 64) 1 2) (λ type at₁.
    and_then (fixed_at s (bit flags 32) 2 at₁) (λ identifier at₂.
    and_then (fixed_at s (bit flags 16) 2 at₂) (λ reference at₃.
    and_then (sender_at s (bit flags 8) at₃) (λ sender at₄.
    and_then (data_at s (bit flags 4) at₄) (λ user at₅.
    at_end (rest_at s (bit flags 128) at₅) (λ n.
    Ok
    (record {
      header = record {
        multi_shot = eqb (flags % 2) 1;
        confirmation = confirmation;
        message_type = type;
        identifier = identifier;
        reference = reference;
        sender = sender;
        user_data = user;
        end = at₅;
      };
      extensions = n;
    })))))))

-- "A reader gives either the whole message or the fault, never a partial one"
unfoldable pub reading_of : List ℕ → Result Whole Fault
reading_of s = and_then (opened s) (λ flags confirmation. fields_of s flags confirmation)
