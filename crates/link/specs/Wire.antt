-- Lines on their way from one unit to the other, as octets (01, "Link rules of demand 3"), and what a later edition adds to them.
use Rattle.std.specs.Prelude.{ℕ, ◌+◌, ◌-◌, List, [], ◌∷◌, ◌++◌, Bool, true, ltb, leb, eqb, length, take, drop, get_or}
use Rattle.octets.specs.Choice.{pick, both}
use Rattle.frame.specs.Message.{Extension}
use Rattle.frame.specs.Encoding.{extension_octets, valid_extensions}

-- "An event or output line is a kind octet and a body."
abbrev pub kind_of : List ℕ → ℕ
kind_of l = get_or l 0 0

-- octets are below 256
abbrev pub octets : List ℕ → Bool
octets [] = true
octets (x ∷ s) = both (ltb x 256) (octets s)

-- ---- a later edition

-- A frame with extension fields: "Octet 0, from bit 7: extensions follow", "one or more extension fields fill the rest". `f` is an edition 1 frame.
abbrev pub follow : List Extension → List ℕ → List ℕ
follow [] f = f
follow (x ∷ xs) [] = []
follow (x ∷ xs) (o ∷ f) = (128 + o) ∷ (f ++ extension_octets (x ∷ xs))

-- "adds extension fields within the frame limit": valid ones, and at most 1,024 octets in all; else none are added
unfoldable pub extended : List Extension → List ℕ → List ℕ
extended xs f =
    pick (both (valid_extensions xs) (both (octets (extension_octets xs)) (leb (length (follow xs f)) 1024))) (follow xs f) f

-- where the frame of a sent line begins: "30 D-START request (terms, …; frame or nothing); 31 D-START response (result; frame or nothing); 32
-- D-DATA request (frame)"; the other lines carry none
abbrev pub frame_of_sent : (kind : ℕ) → ℕ
frame_of_sent k = pick (eqb k 0x30) 4 (pick (eqb k 0x31) 2 1)

abbrev pub carries_frame : (kind : ℕ) → Bool
carries_frame k = both (leb 0x30 k) (leb k 0x32)

-- what the link is handed of a line that an edition 1 unit sends: its frame, where there is one, with the extension fields xs
unfoldable pub handed_over : List Extension → List ℕ → List ℕ
handed_over xs l =
    pick (carries_frame (kind_of l)) (take (frame_of_sent (kind_of l)) l ++ extended xs (drop (frame_of_sent (kind_of l)) l)) l

-- "30 at one end is 10 at the other, 31 is 11, 32 is 12, 33 is 13, 34 is 14."
abbrev pub arriving : List ℕ → List ℕ
arriving [] = []
arriving (k ∷ body) = (k - 0x20) ∷ body
