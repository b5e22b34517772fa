-- An event's octets as an event, or refusal 8 (01, "Events, lines and the listing").
-- 8: "event empty, kind unknown, body shorter than its fixed part, octets after a kind that carries no frame, result or RER out of range"
use Rattle.std.specs.Prelude.{ℕ, List, true, false, length, get_or, ltb, leb, eqb}
use Rattle.octets.specs.Choice.{pick, both}
use Rattle.book.specs.declared.Terms.{Terms}
use Rattle.book.specs.declared.Event.{Event}
use Rattle.book.specs.declared.Event.TheVariants.{Malformed, Transfer, End, Tick, StartAsked, StartAnswered, Data, EndAsked, EndAnswered, Aborted, Dropped}

-- "terms" after the kind octet
unfoldable pub terms_in : List ℕ → Terms
terms_in s = record { class = get_or s 1 0; priority = get_or s 2 0; rer = get_or s 3 0 }

-- "octets after a kind that carries no frame"
abbrev pub alone : List ℕ → Event → Event
alone s e = pick (eqb (length s) 1) e Malformed

-- "body shorter than its fixed part", "RER out of range": "1 low, 2 high, 0 not provided (kinds 01 and 02 only …)"
abbrev pub with_terms : (least : ℕ) → List ℕ → Event → Event
with_terms least s e = pick (ltb (length s) 4) Malformed (pick (both (leb least (get_or s 3 0)) (leb (get_or s 3 0) 2)) e Malformed)

-- "Result: 0 accepted, 1 rejected", "result … out of range"
abbrev pub start_answer : List ℕ → Event
start_answer s = pick (ltb (length s) 2) Malformed (pick (ltb (get_or s 1 0) 2) (StartAnswered (eqb (get_or s 1 0) 0)) Malformed)

abbrev pub end_answer : List ℕ → Event
end_answer s = pick (eqb (length s) 2) (pick (ltb (get_or s 1 0) 2) (EndAnswered (eqb (get_or s 1 0) 0)) Malformed) Malformed

-- "In: 01 transfer and 02 confirmed transfer (terms, frame); 03 G-END; 04 one tick; 10 D-START indication (terms, frame or nothing); 11 D-START
-- confirmation (result, frame or nothing); 12 D-DATA indication (frame); 13 D-END indication; 14 D-END confirmation (result); 15 D-ABORT
-- indication; 16 D-P-ABORT indication."
abbrev pub by_kind : (kind : ℕ) → List ℕ → Event
by_kind k s =
    pick (eqb k 0x01) (with_terms 0 s (Transfer false (terms_in s)))
    (pick (eqb k 0x02) (with_terms 0 s (Transfer true (terms_in s)))
    (pick (eqb k 0x03) (alone s End)
    (pick (eqb k 0x04) (alone s Tick)
    (pick (eqb k 0x10) (with_terms 1 s (StartAsked (terms_in s)))
    (pick (eqb k 0x11) (start_answer s)
    (pick (eqb k 0x12) Data
    (pick (eqb k 0x13) (alone s EndAsked)
    (pick (eqb k 0x14) (end_answer s)
    (pick (eqb k 0x15) (alone s Aborted)
    (pick (eqb k 0x16) (alone s Dropped) Malformed))))))))))

unfoldable pub event_of : List ℕ → Event
event_of s = pick (eqb (length s) 0) Malformed (by_kind (get_or s 0 0) s)

-- where an event's frame begins: after the kind, and the terms or the result
abbrev pub frame_from : Event → ℕ
frame_from Malformed = 1
frame_from (Transfer c a) = 4
frame_from End = 1
frame_from Tick = 1
frame_from (StartAsked a) = 4
frame_from (StartAnswered b) = 2
frame_from Data = 1
frame_from EndAsked = 1
frame_from (EndAnswered b) = 2
frame_from Aborted = 1
frame_from Dropped = 1
