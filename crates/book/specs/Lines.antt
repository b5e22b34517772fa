-- Output lines as octets (01, "Events, lines and the listing"): "An event or output line is a kind octet and a body."
use Rattle.std.specs.Prelude.{ℕ, ◌/◌, ◌%◌, List, [], ◌∷◌, ◌++◌, map, Bool, true, false, length, None, Option, Some}
use Rattle.book.specs.declared.Terms.{Terms}
use Rattle.book.specs.Book.{Msg, plain, sure, Reading, bad, good, Line, start, reply, dat, fin, fin_ok, cut, lost, Result, success, failed, uncertain, Out, give, answer, ended, gone, seen, send}
use Rattle.book.specs.View.{msg_octets, frame_octets}

-- "Terms are class, priority (any octet each) and residual error rate (RER)"
abbrev pub terms_octets : Terms → List ℕ
terms_octets a = a.class ∷ a.priority ∷ a.rer ∷ []

-- what follows a reason in lines 24 and 35: nothing
abbrev pub reason_octets : (reason : ℕ) → List ℕ
reason_octets r = r ∷ []

-- "(0 successful, 1 failed, 2 uncertain)"
abbrev pub result_number : Result → ℕ
result_number success = 0
result_number failed = 1
result_number uncertain = 2

-- "Result: 0 accepted, 1 rejected."
abbrev pub accepted_number : Bool → ℕ
accepted_number true = 0
accepted_number false = 1

-- a frame of an output line; "frame or nothing"
abbrev pub read_octets : Reading → List ℕ
read_octets (bad n) = []
read_octets (good f n) = frame_octets f

abbrev pub held_octets : Option Reading → List ℕ
held_octets None = []
held_octets (Some r) = read_octets r

-- "30 D-START request (terms, RER never 0; frame or nothing); 31 D-START response (result; frame or nothing); 32 D-DATA request (frame); 33 D-END
-- request; 34 D-END response (result); 35 D-ABORT request (reason)"
abbrev pub sent_line : Line → List ℕ
sent_line (start a f) = 0x30 ∷ (terms_octets a ++ held_octets f)
sent_line (reply b f) = 0x31 ∷ accepted_number b ∷ held_octets f
sent_line (dat r) = 0x32 ∷ read_octets r
sent_line fin = 0x33 ∷ []
sent_line (fin_ok b) = 0x34 ∷ accepted_number b ∷ []
sent_line (cut r) = 0x35 ∷ reason_octets r
sent_line lost = []

-- "20 transfer indication and 21 confirmed transfer indication (terms, frame without extensions)"
abbrev pub give_kind : Msg → ℕ
give_kind (plain i r q b) = 0x20
give_kind (sure i r q b) = 0x21

-- "22 confirmation (…; frame without extensions); 23 end; 24 lost (reason); 25 extension fields seen (2-octet number)"
abbrev pub line_of : Out → List ℕ
line_of (give a m) = give_kind m ∷ (terms_octets a ++ msg_octets m)
line_of (answer i r f) = 0x22 ∷ result_number r ∷ frame_octets f
line_of ended = 0x23 ∷ []
line_of (gone r) = 0x24 ∷ reason_octets r
line_of (seen n) = 0x25 ∷ n / 256 ∷ n % 256 ∷ []
line_of (send l) = sent_line l

-- "A lent buffer receives each line as a 2-octet length and its octets"
abbrev pub laid : List (List ℕ) → List ℕ
laid [] = []
laid (l ∷ ls) = length l / 256 ∷ length l % 256 ∷ (l ++ laid ls)

unfoldable pub laid_out : List Out → List ℕ
laid_out os = laid (map line_of os)
