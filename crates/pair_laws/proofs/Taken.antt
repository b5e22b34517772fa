-- NO DELIVERED LINE IS REFUSED, at either end, after any run. Closed by cases on the invariant's configuration and the next line.
use mathlib.Core.Bool.{Bool, true, false}
use mathlib.Core.List.{[], ◌∷◌}
use Prim.Native.Nat.{ℕ}
use Rattle.book.specs.Book.{greet, Msg, plain, sure, State, Setup, quiet_fall, on_start, first_contact, on_reply, begun, on_dat, on_fin, on_fin_ok, on_abort}
use Rattle.book.specs.declared.Terms.{Terms}
use Rattle.pair_laws.specs.Model.{World, busy, inside, is_start, as_heard, on_line}
use Rattle.pair_laws.specs.Statement.{Accepted, accepted, answer_to_next, AlwaysTaken}
use Rattle.pair_laws.proofs.Facts.{mes, confirm, wire, dats, eqb_refl}
use Rattle.pair_laws.proofs.Inv.{up, down, Busy, in_single, in_multi, in_ending, in_assoc, by_peer, by_provider, last_fin, last_ok, rested, turning, closing, severed, resting, calling_single, calling_multi, stranded_single, stranded_multi, Inv, talking, dead, free, free', opening, opening', tail}
use Rattle.pair_laws.proofs.Close.{inv_swap}
use Rattle.pair_laws.proofs.Tools.{busy_true}
use Rattle.pair_laws.proofs.Demand.{inv_of_run}

take_abort : {u : State} (s : Setup) (r : ℕ) → Busy u → Accepted (on_abort s r u)
unfolding on_abort quiet_fall
take_abort s r in_single = accepted
take_abort s r in_multi = accepted
take_abort s r in_ending = accepted
take_abort s r in_assoc = accepted

take-greet : (s : Setup) (k : Bool) (a : Terms) (e : ℕ) (m : Msg) → Accepted (greet s k a e m)
unfolding greet
take-greet s true a e m = accepted
take-greet s false a e (plain i ir iq b) = accepted
take-greet s false a e (sure i ir iq b) = accepted

pub taken : {w : World} → Inv w → Accepted (answer_to_next w)
unfolding answer_to_next is_start inside busy as_heard on_line on_start first_contact on_reply begun on_dat on_fin on_fin_ok tail dats wire
taken (talking {qb = []} a up c e v k p q) = accepted
taken (talking {qb = []} up down c e v k p q) = rw eqb_refl accepted
taken (talking {qb = []} down down c e v k p q) = rw eqb_refl accepted
taken (talking {qb = mes (plain j jr jq n) y ∷ qs} up b c e v k p q) = rw eqb_refl accepted
taken (talking {qb = mes (sure i ir iq n) y ∷ qs} up b c e v k p q) = rw eqb_refl accepted
taken (talking {qb = confirm r y ∷ qs} up b c e v k p q) = rw eqb_refl accepted
taken (talking {qb = mes m y ∷ qs} down b c e v k p q) = rw eqb_refl accepted
taken (talking {qb = confirm r y ∷ qs} down b c e v k p q) = rw eqb_refl accepted
taken (dead {s = s} a b c by_peer v k p q) = simp (eqb_refl, busy_true a) (take_abort s 0 a)
taken (dead {s = s} a b c by_provider v k p q) = simp (eqb_refl, busy_true a) (take_abort s 1 a)
taken (free (rested h) (resting lt) k p q) = accepted
taken (free (rested h) (calling_single {m = plain j jr jq n} sh a y ne lt) k p q) = take-greet _ _ _ _ _
taken (free (rested h) (calling_single {m = sure i ir iq n} sh a y ne lt) k p q) = take-greet _ _ _ _ _
taken (free (rested h) (calling_multi a y ne lt) k p q) = accepted
taken (free (rested h) (stranded_single c v ne lt) k p q) = accepted
taken (free (rested h) (stranded_multi c v ne lt) k p q) = accepted
taken (free (turning r ea eb) b k p q) = rw eqb_refl accepted
taken (free (closing {q = []} last_fin f r e y) b k p q) = rw eqb_refl accepted
taken (free (closing {q = []} last_ok f r e y) b k p q) = rw eqb_refl accepted
taken (free (closing {q = mes m z ∷ qs} l f r e y) b k p q) = rw eqb_refl accepted
taken (free (closing {q = confirm j z ∷ qs} l f r e y) b k p q) = rw eqb_refl accepted
taken (free {s = s} (severed a by_peer v) b k p q) = simp (eqb_refl, busy_true a) (take_abort s 0 a)
taken (free {s = s} (severed a by_provider v) b k p q) = simp (eqb_refl, busy_true a) (take_abort s 1 a)
taken (free' a (resting lt) k p q) = accepted
taken (free' a (calling_single o b y ne lt) k p q) = accepted
taken (free' a (calling_multi b y ne lt) k p q) = accepted
taken (free' {t = s} a (stranded_single by_peer v ne lt) k p q) = simp (eqb_refl) (take_abort s 0 in_single)
taken (free' {t = s} a (stranded_single by_provider v ne lt) k p q) = simp (eqb_refl) (take_abort s 1 in_single)
taken (free' {t = s} a (stranded_multi by_peer v ne lt) k p q) = simp (eqb_refl) (take_abort s 0 in_multi)
taken (free' {t = s} a (stranded_multi by_provider v ne lt) k p q) = simp (eqb_refl) (take_abort s 1 in_multi)
taken (opening a b v k p q) = rw eqb_refl accepted
taken (opening' a b v k p q) = accepted

pub always_taken : AlwaysTaken
always_taken s t cs = let i = inv_of_run s t cs in (taken i, taken (inv_swap i))
