-- The words for 01's numbers. Each table is 01's own, in its words, shortened where they are long.
use Rattle.std.specs.Prelude.{ℕ, Bool, true, false, List, ◌++◌, eqb}
use Rattle.octets.specs.Choice.{pick}
use Rattle.phrases.specs.Spelling.{spelled, decimal}
use Rattle.book.specs.declared.Terms.{Terms}

-- "bit 0 multiShot (1 = maintained, 0 = single)"
abbrev pub shot_words : Bool → List ℕ
shot_words true = spelled "maintained"
shot_words false = spelled "single"

-- "0 unconfirmedReq, 1 confirmedReq, 2 confirmedOk, 3 confirmedNotOk, 4 confirmedUnknown"
unfoldable pub confirmation_words : ℕ → List ℕ
confirmation_words n =
    pick (eqb n 0) (spelled ", unconfirmedReq")
    (pick (eqb n 1) (spelled ", confirmedReq")
    (pick (eqb n 2) (spelled ", confirmedOk")
    (pick (eqb n 3) (spelled ", confirmedNotOk") (spelled ", confirmedUnknown"))))

-- "residual error rate (RER): 1 low, 2 high, 0 not provided"
unfoldable pub rer_words : ℕ → List ℕ
rer_words n = pick (eqb n 0) (spelled "not provided") (pick (eqb n 1) (spelled "low") (spelled "high"))

-- "Terms are class, priority (any octet each) and residual error rate"
unfoldable pub terms_words : Terms → List ℕ
terms_words t = spelled "class " ++ decimal t.class ++ spelled ", priority " ++ decimal t.priority ++ spelled ", residual error rate " ++ rer_words t.rer

-- "Result: 0 accepted, 1 rejected."
abbrev pub accepted_words : Bool → List ℕ
accepted_words true = spelled "accepted"
accepted_words false = spelled "rejected"

-- "22 confirmation (0 successful, 1 failed, 2 uncertain …)", in 000's words
unfoldable pub delivery_words : ℕ → List ℕ
delivery_words n =
    pick (eqb n 0) (spelled "Successful delivery")
    (pick (eqb n 1) (spelled "Delivery failed") (spelled "Service problem - delivery status uncertain"))

-- 01's table of faults
unfoldable pub fault_meaning : ℕ → List ℕ
fault_meaning n =
    pick (eqb n 11) (spelled "over 1,024 octets")
    (pick (eqb n 12) (spelled "ends before a field is complete")
    (pick (eqb n 13) (spelled "bit 1 of octet 0 set, confirmation above 4, or tag 0")
    (pick (eqb n 14) (spelled "sender length 0 or above 32, data length above 512")
    (pick (eqb n 15) (spelled "a needed field is absent") (spelled "octets left over with bit 7 clear")))))

-- "Reasons: 0 peer abort, 1 provider abort, 2 timer, 3 rejected, 10 frame not expected, 11 to 16 a frame fault."
unfoldable pub reason_meaning : ℕ → List ℕ
reason_meaning n =
    pick (eqb n 0) (spelled "peer abort")
    (pick (eqb n 1) (spelled "provider abort")
    (pick (eqb n 2) (spelled "timer")
    (pick (eqb n 3) (spelled "rejected")
    (pick (eqb n 10) (spelled "frame not expected") (fault_meaning n)))))

unfoldable pub reason_words : ℕ → List ℕ
reason_words n = spelled "reason " ++ decimal n ++ spelled ": " ++ reason_meaning n

-- 01's table of refusals
unfoldable pub refusal_meaning : ℕ → List ℕ
refusal_meaning n =
    pick (eqb n 1) (spelled "the state does not take this event")
    (pick (eqb n 2) (spelled "the frame has a fault or extensions, or its confirmation does not fit the kind of transfer")
    (pick (eqb n 3) (spelled "a multi-shot request in Associated has terms other than the dialogue's")
    (pick (eqb n 4) (spelled "the identifier of this confirmed transfer is already waiting")
    (pick (eqb n 5) (spelled "a confirmed transfer while eight identifiers are waiting")
    (pick (eqb n 6) (spelled "the lent buffer has fewer than 1,024 octets")
    (pick (eqb n 7) (spelled "setup is outside its limits")
    (pick (eqb n 8) (spelled "no event: kind unknown, body too short or too long, result or RER out of range, or no line of digits")
    (spelled "the unit handed in is not sound"))))))))

-- "0 Idle, 1 Start-single, 2 Start-multi, 3 Ending, 4 Associated"
unfoldable pub state_name : ℕ → List ℕ
state_name n =
    pick (eqb n 0) (spelled "Idle")
    (pick (eqb n 1) (spelled "Start-single")
    (pick (eqb n 2) (spelled "Start-multi") (pick (eqb n 3) (spelled "Ending") (spelled "Associated"))))
