-- 01's "Slips to shut out", and the rules that are easiest to get wrong, each as one worked example of the rule book. Closed by computation: a rule
-- book that slips does not compute to these.
use Rattle.std.specs.Prelude.{None, Some}
use Prim.Native.Nat.{ℕ}
use mathlib.Core.Path.{◌≡◌, refl}
use mathlib.Core.Bool.{true, false}
use mathlib.Core.List.{List, [], ◌∷◌}
use Rattle.book.specs.declared.Terms.{Terms}
use Rattle.book.specs.declared.Refusal.{Refusal}
use Rattle.book.specs.declared.Refusal.TheVariants.{OtherTerms, Waits, Full}
use Rattle.book.specs.declared.Unit.{Unit as Value}
use Rattle.book.specs.Book.{Body, Msg, plain, sure, Kind, ok, unknown, Frame, msg, note, good, Out, give, answer, success, uncertain, send, seen, gone, start, dat, cut, State, idle, single, multi, ending, assoc, Setup, Outcome, refused, done, local, ack, on_request, on_dat, on_reply, on_tick}
use Rattle.book.specs.Book as Book
use Rattle.book.specs.Step.{turn_of}

-- a unit G1 with 01's limits, a dialogue's terms, a maintained body
abbrev G1 : Setup
G1 = record { name = 0x47 ∷ 0x31 ∷ []; start_limit = 60; end_limit = 60; inactivity_limit = 300 }

abbrev terms : Terms
terms = record { class = 2; priority = 3; rer = 1 }

abbrev unsettled : Terms
unsettled = record { class = 2; priority = 3; rer = 0 }

abbrev others : Terms
others = record { class = 2; priority = 4; rer = 1 }

abbrev body : Body
body = record { maintained = true; type = None; user_data = None }

abbrev sheet : ℕ → Msg
sheet i = sure i None None body

abbrev eight : List ℕ
eight = 1 ∷ 2 ∷ 3 ∷ 4 ∷ 5 ∷ 6 ∷ 7 ∷ 8 ∷ []

abbrev okay : ℕ → Frame
okay r = note ok r None (0x41 ∷ []) body

-- "Answering the oldest waiting identifier whichever reference came": two load sheets wait, the newer is answered, the older waits on
pub not_the_oldest : on_dat G1 (good (okay 9) 0) (assoc terms (7 ∷ 9 ∷ []) 5) ≡ done (assoc terms (7 ∷ []) 0) (answer 9 success (okay 9) ∷ [])
unfolding on_dat Book.noted Book.left_waiting Book.without Book.without_in Book.with_seen Book.result_of
not_the_oldest = refl

-- "Taking a rejected D-START as failure: for single shot it is the normal carrier of the acknowledgement"
pub rejected_carries : on_reply G1 false (Some (good (okay 7) 0)) (single terms (7 ∷ []) 5) ≡ done idle (answer 7 success (okay 7) ∷ [])
unfolding on_reply Book.answered_by Book.single_result Book.with_seen Book.result_of
rejected_carries = refl

-- "Acknowledging in Ending"; and there elapsed is unchanged
pub silent_in_ending : on_dat G1 (good (msg (sheet 5)) 0) (ending terms (7 ∷ []) 4) ≡ done (ending terms (7 ∷ []) 4) (give terms (sheet 5) ∷ [])
unfolding on_dat Book.with_seen
silent_in_ending = refl

-- in Associated it is given, then acknowledged, and elapsed is 0; line 25 comes first and says how many
pub seen_given_acknowledged : on_dat G1 (good (msg (sheet 5)) 2) (assoc terms [] 4)
    ≡ done (assoc terms [] 0) (seen 2 ∷ give terms (sheet 5) ∷ send (dat (good (ack G1 5 body) 0)) ∷ [])
unfolding on_dat Book.with_seen
seen_given_acknowledged = refl

-- refusal 3 before 4 and 5, 4 before 5; at eight an 02 is refused and an 01 still taken
pub refused_in_order :
    (on_request true others (good (msg (sheet 5)) 0) (assoc terms eight 0) ≡ refused OtherTerms)
    × (on_request true terms (good (msg (sheet 5)) 0) (assoc terms eight 0) ≡ refused Waits)
    × (on_request true terms (good (msg (sheet 9)) 0) (assoc terms eight 0) ≡ refused Full)
    × (on_request false terms (good (msg (plain None None None body)) 0) (assoc terms eight 7)
    ≡ done (assoc terms eight 0) (send (dat (good (msg (plain None None None body)) 0)) ∷ []))
unfolding on_request Book.on_vetted Book.vet Book.on_shot Book.body_of Book.on_multi Book.bar Book.bar_confirmed Book.same_terms Book.settled Book.full Book.ids_of
refused_in_order = (refl, refl, refl, refl)

-- RER 0 counts as low before terms are kept, sent or compared
pub rer_settled :
    (on_request true unsettled (good (msg (sheet 5)) 0) idle ≡ done (multi terms (sheet 5) 0) (send (start terms None) ∷ []))
    × (on_request true unsettled (good (msg (sheet 5)) 0) (assoc terms [] 0) ≡ done (assoc terms (5 ∷ []) 0) (send (dat (good (msg (sheet 5)) 0)) ∷ []))
unfolding on_request Book.on_vetted Book.vet Book.on_shot Book.body_of Book.on_multi Book.bar Book.bar_confirmed Book.same_terms Book.settled Book.full Book.ids_of
rer_settled = (refl, refl)

-- a fall: 35, those who wait in sending order, 24
pub falls_in_order : on_tick G1 true (ending terms (7 ∷ 9 ∷ []) 59)
    ≡ done idle (send (cut 2) ∷ answer 7 uncertain (local G1 true unknown 7) ∷ answer 9 uncertain (local G1 true unknown 9) ∷ gone 2 ∷ [])
unfolding on_tick Book.fall Book.unsure
falls_in_order = refl

-- "Every refusal returns its number, the unit unchanged"
pub refusal_keeps : (u : Value) (r : Refusal) → (turn_of u (refused r)).unit ≡ u
unfolding turn_of
refusal_keeps u r = refl
