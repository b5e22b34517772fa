-- A message as octets (01, "The message frame").
use Rattle.std.specs.Prelude.{ℕ, ◌+◌, ◌/◌, ◌%◌, List, [], ◌∷◌, ◌++◌, Bool, true, false, length, ltb, None, Option, Some}
use Rattle.octets.specs.Choice.{both}
use Rattle.frame.specs.Message.{Message, Extension, present}

-- a bit of that weight, set or clear
abbrev pub weight : Bool → ℕ → ℕ
weight true w = w
weight false w = 0

-- "Octet 0, from bit 7: extensions follow; messageType present; messageIdentifier present; messageReference present; sender present;
-- userData present; bit 1 zero; bit 0 multiShot"
unfoldable pub first_octet : (follow : Bool) → Message → ℕ
first_octet follow m =
    weight follow 128
    + weight (present m.message_type) 64
    + weight (present m.message_identifier) 32
    + weight (present m.message_reference) 16
    + weight (present m.sender) 8
    + weight (present m.user_data) 4
    + weight m.multi_shot 1

-- "type, 1 octet"
abbrev pub type_octets : Option ℕ → List ℕ
type_octets None = []
type_octets (Some x) = x ∷ []

-- "identifier, 2; reference, 2": "Numbers are big-endian"
abbrev pub number_octets : Option ℕ → List ℕ
number_octets None = []
number_octets (Some n) = n / 256 ∷ n % 256 ∷ []

-- "sender, a length octet 1..32 and its octets"
abbrev pub sender_octets : Option (List ℕ) → List ℕ
sender_octets None = []
sender_octets (Some s) = length s ∷ s

-- "userData, a 2-octet length 0..512 and its octets"
abbrev pub data_octets : Option (List ℕ) → List ℕ
data_octets None = []
data_octets (Some s) = length s / 256 ∷ length s % 256 ∷ s

-- "one or more extension fields fill the rest": "tag 1..255, length 0..255, octets"
abbrev pub extension_octets : List Extension → List ℕ
extension_octets [] = []
extension_octets (x ∷ xs) = x.0 ∷ length x.1 ∷ (x.1 ++ extension_octets xs)

abbrev pub follows : List Extension → Bool
follows [] = false
follows (x ∷ xs) = true

-- "tag 1..255, length 0..255, octets": fields that an edition may write
abbrev pub valid_extensions : List Extension → Bool
valid_extensions [] = true
valid_extensions (x ∷ xs) = both (ltb 0 x.0) (both (ltb x.0 256) (both (ltb (length x.1) 256) (valid_extensions xs)))

-- "Then the present fields in this order": what any edition writes of a message, with the extension fields xs
unfoldable pub frame_of : Message → List Extension → List ℕ
frame_of m xs =
    (first_octet (follows xs) m ∷ m.confirmation ∷ [])
    ++ type_octets m.message_type
    ++ number_octets m.message_identifier
    ++ number_octets m.message_reference
    ++ sender_octets m.sender
    ++ data_octets m.user_data
    ++ extension_octets xs

-- "Edition 1 writes none": an edition 1 frame
unfoldable pub encode : Message → List ℕ
encode m = frame_of m []
