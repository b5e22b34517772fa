-- THE RULE BOOK: messages, lines, states, and what each event does in each state (01, "The five states"), at the level of messages.
-- The code is proved to do this (crate unit), and demand 3 stands on it (crate link).
use Rattle.std.specs.Prelude.{Bool, true, false, List, [], ◌∷◌, ◌++◌, ℕ, zero, suc, eqb, leb, length, None, Option, Some}
use Rattle.octets.specs.Choice.{pick, both, either}
use Rattle.book.specs.declared.Terms.{Terms}
use Rattle.book.specs.declared.Refusal.{Refusal}
use Rattle.book.specs.declared.Refusal.TheVariants.{WrongState, BadFrame, OtherTerms, Waits, Full}

-- ---------------------------------------------------------------- messages and lines

-- What every frame has beside its confirmation and the fields that a confirmation may need. `maintained` is the multiShot bit.
pub record Body : Type 0 where
  pub maintained : Bool
  pub type : Option ℕ
  pub user_data : Option (List ℕ)

-- A message of a user: confirmation 0, or 1 with its identifier.
pub data Msg : Type 0 where
  plain : (id ref : Option ℕ) (sender : Option (List ℕ)) (body : Body) → Msg
  sure : (id : ℕ) (ref : Option ℕ) (sender : Option (List ℕ)) (body : Body) → Msg

-- Confirmation 2, 3, 4.
pub data Kind : Type 0 where
  ok not_ok unknown : Kind

-- A valid frame: a message, or a confirmation with its reference and sender. (What 01 does not allow cannot be written.)
pub data Frame : Type 0 where
  msg : Msg → Frame
  note : Kind → (ref : ℕ) (id : Option ℕ) (sender : List ℕ) (body : Body) → Frame

-- Octets read as a frame: the frame and the number of its extension fields, or the fault.
pub data Reading : Type 0 where
  bad : (fault : ℕ) → Reading
  good : Frame → (extensions : ℕ) → Reading

-- What travels: 30/10 D-START, 31/11 its answer (true: accepted), 32/12 D-DATA, 33/13 D-END, 34/14 its answer, 35/15 D-ABORT, 16 D-P-ABORT.
-- `none` is 01's "nothing" in place of a frame.
pub data Line : Type 0 where
  start : Terms → Option Reading → Line
  reply : Bool → Option Reading → Line
  dat : Reading → Line
  fin : Line
  fin_ok : Bool → Line
  cut : (reason : ℕ) → Line
  lost : Line

-- Line 22: 0 successful, 1 failed, 2 uncertain.
pub data Result : Type 0 where
  success failed uncertain : Result

-- Output lines: 20 and 21 `give`, 22 `answer` (of the identifier named), 23 `ended`, 24 `gone`, 25 `seen`, 30 to 35 `send`.
pub data Out : Type 0 where
  give : Terms → Msg → Out
  answer : (id : ℕ) → Result → Frame → Out
  ended : Out
  gone : (reason : ℕ) → Out
  seen : (extensions : ℕ) → Out
  send : Line → Out

-- ---------------------------------------------------------------- the unit

-- 0 Idle, 1 Start-single, 2 Start-multi, 3 Ending, 4 Associated, each with the fields that it uses.
pub data State : Type 0 where
  idle : State
  single : (terms : Terms) (waiting : List ℕ) (elapsed : ℕ) → State
  multi : (terms : Terms) (kept : Msg) (elapsed : ℕ) → State
  ending : (terms : Terms) (waiting : List ℕ) (elapsed : ℕ) → State
  assoc : (terms : Terms) (waiting : List ℕ) (elapsed : ℕ) → State

pub record Setup : Type 0 where
  pub name : List ℕ
  pub start_limit : ℕ
  pub end_limit : ℕ
  pub inactivity_limit : ℕ

-- A refusal ("the unit unchanged and the buffer untouched"; 01's number of each is in Refusals), or the next state and the output lines in order.
pub data Outcome : Type 0 where
  refused : Refusal → Outcome
  done : State → List Out → Outcome

-- ---------------------------------------------------------------- terms

-- Terms that agree, for refusal 3.
unfoldable pub same_terms : Terms → Terms → Bool
same_terms a b = both (eqb a.class b.class) (both (eqb a.priority b.priority) (eqb a.rer b.rer))

-- "residual error rate (RER): 1 low, 2 high, 0 not provided (kinds 01 and 02 only; it counts as low, 000 Table 1.3-10)"
unfoldable pub settled : Terms → Terms
settled a = record { class = a.class; priority = a.priority; rer = pick (eqb a.rer 0) 1 a.rer }

-- ---------------------------------------------------------------- who waits

-- A confirmed message's identifier joins the waiting list.
unfoldable pub ids_of : Msg → List ℕ
ids_of (plain i r q b) = []
ids_of (sure i r q b) = i ∷ []

unfoldable pub waiting_of : State → List ℕ
unfolding ids_of
waiting_of idle = []
waiting_of (single T w t) = w
waiting_of (multi T k t) = ids_of k
waiting_of (ending T w t) = w
waiting_of (assoc T w t) = w

-- whether `i` is in the list
abbrev pub waits : ℕ → List ℕ → Bool
waits i [] = false
waits i (j ∷ w) = either (eqb i j) (waits i w)

-- eight identifiers are waiting
unfoldable pub full : List ℕ → Bool
full w = leb 8 (length w)

-- The waiting list without the first `r`, if `r` waits: "one place removed and the rest closed up".
unfoldable pub without_in : Bool → ℕ → List ℕ → Option (List ℕ) → Option (List ℕ)
without_in true j w o = Some w
without_in false j w None = None
without_in false j w (Some v) = Some (j ∷ v)

unfoldable pub without : ℕ → List ℕ → Option (List ℕ)
without r [] = None
without r (j ∷ w) = without_in (eqb r j) j w (without r w)

-- ---------------------------------------------------------------- answers made here

unfoldable pub body_of : Msg → Body
body_of (plain i r q b) = b
body_of (sure i r q b) = b

-- "An acknowledgement frame has the received type if present and multiShot bit, the received identifier as reference, confirmedOk, the unit's
-- name as sender."
unfoldable pub ack_body : Body → Body
ack_body b = record { maintained = b.maintained; type = b.type; user_data = None }

unfoldable pub ack : Setup → (id : ℕ) → Body → Frame
unfolding ack_body
ack s i b = note ok i None s.name (ack_body b)

-- "An answer made locally has the name, the waiting identifier as reference, multiShot single in state 1 and else maintained, and confirmedNotOk
-- (failed) or confirmedUnknown (uncertain)."
unfoldable pub local : Setup → (maintained : Bool) → Kind → ℕ → Frame
local s m k i = note k i None s.name (record { maintained = m; type = None; user_data = None })

-- every identifier of `w` answered uncertain, in sending order, then `rest`
unfoldable pub unsure : Setup → (maintained : Bool) → List ℕ → List Out → List Out
unsure s m [] rest = rest
unsure s m (i ∷ w) rest = answer i uncertain (local s m unknown i) ∷ unsure s m w rest

-- every identifier of `w` answered failed, then `rest`
unfoldable pub refuse_all : Setup → List ℕ → List Out → List Out
refuse_all s [] rest = rest
refuse_all s (i ∷ w) rest = answer i failed (local s true not_ok i) ∷ refuse_all s w rest

-- "Line 25 comes first whenever a valid frame with extensions was read."
unfoldable pub with_seen : (extensions : ℕ) → List Out → List Out
with_seen zero os = os
with_seen (suc n) os = seen (suc n) ∷ os

-- "A fall is 35 if named, then every waiting identifier answered uncertain in sending order (000, 1.3.4.4.2), then 24 with the reason, to 0."
unfoldable pub fall : Setup → (maintained : Bool) → List ℕ → (reason : ℕ) → Outcome
fall s m w r = done idle (send (cut r) ∷ unsure s m w (gone r ∷ []))

unfoldable pub quiet_fall : Setup → (maintained : Bool) → List ℕ → (reason : ℕ) → Outcome
quiet_fall s m w r = done idle (unsure s m w (gone r ∷ []))

-- ---------------------------------------------------------------- requests: 01 and 02

-- The message of a request, 01 or (true) 02. None is refusal 2: "the frame of 01 or 02 has a fault or extensions, or its confirmation isn't 0 for
-- 01, 1 for 02".
unfoldable pub vet : (confirmed : Bool) → Reading → Option Msg
vet c (bad n) = None
vet c (good f (suc n)) = None
vet c (good (note k r i q b) zero) = None
vet true (good (msg (plain i r q b)) zero) = None
vet false (good (msg (plain i r q b)) zero) = Some (plain i r q b)
vet true (good (msg (sure i r q b)) zero) = Some (sure i r q b)
vet false (good (msg (sure i r q b)) zero) = None

-- 4: "the identifier of an 02 is already waiting"; 5: "an 02 comes while eight identifiers are waiting (01 is still taken)"
unfoldable pub bar_confirmed : Msg → List ℕ → Option Refusal
bar_confirmed (plain i r q b) w = None
bar_confirmed (sure i r q b) w = pick (waits i w) (Some Waits) (pick (full w) (Some Full) None)

-- The refusal 3, 4 or 5 that a multi-shot request meets in Associated, if any. 3: "a multi-shot request in Associated has terms other than the
-- dialogue's".
unfoldable pub bar : Terms → Msg → State → Option Refusal
bar a m idle = None
bar a m (single T w t) = None
bar a m (multi T k t) = None
bar a m (ending T w t) = None
bar a m (assoc T w t) = pick (same_terms (settled a) T) (bar_confirmed m w) (Some OtherTerms)

-- "Single request in 0: line 30 with the frame, to 1."
unfoldable pub on_single : Terms → Msg → State → Outcome
on_single a m idle = done (single (settled a) (ids_of m) 0) (send (start (settled a) (Some (good (msg m) 0))) ∷ [])
on_single a m (single T w t) = refused WrongState
on_single a m (multi T k t) = refused WrongState
on_single a m (ending T w t) = refused WrongState
on_single a m (assoc T w t) = refused WrongState

-- "Multi in 0: keep the frame, line 30 without one, to 2. Multi in 4: line 32, elapsed 0. A confirmed identifier joins the waiting list".
unfoldable pub on_multi : (bar : Option Refusal) → Terms → Msg → State → Outcome
on_multi b a m idle = done (multi (settled a) m 0) (send (start (settled a) None) ∷ [])
on_multi b a m (single T w t) = refused WrongState
on_multi b a m (multi T k t) = refused WrongState
on_multi b a m (ending T w t) = refused WrongState
on_multi (Some r) a m (assoc T w t) = refused r
on_multi None a m (assoc T w t) = done (assoc T (w ++ ids_of m) 0) (send (dat (good (msg m) 0)) ∷ [])

unfoldable pub on_shot : (maintained : Bool) → Terms → Msg → State → Outcome
on_shot false a m st = on_single a m st
on_shot true a m st = on_multi (bar a m st) a m st

unfoldable pub on_vetted : Terms → Option Msg → State → Outcome
on_vetted a None st = refused BadFrame
on_vetted a (Some m) st = on_shot (body_of m).maintained a m st

unfoldable pub on_request : (confirmed : Bool) → Terms → Reading → State → Outcome
on_request c a r st = on_vetted a (vet c r) st

-- ---------------------------------------------------------------- 03 and 04

-- "03 in 4: 33, to 3."
unfoldable pub on_end : State → Outcome
on_end idle = refused WrongState
on_end (single T w t) = refused WrongState
on_end (multi T k t) = refused WrongState
on_end (ending T w t) = refused WrongState
on_end (assoc T w t) = done (ending T w 0) (send fin ∷ [])

-- "The limit is start in 1 and 2, end in 3, inactivity in 4": whether one more tick reaches it
unfoldable pub late : Setup → State → Bool
late s idle = false
late s (single T w t) = leb s.start_limit (suc t)
late s (multi T k t) = leb s.start_limit (suc t)
late s (ending T w t) = leb s.end_limit (suc t)
late s (assoc T w t) = leb s.inactivity_limit (suc t)

-- "Tick: in 0 nothing; else elapsed grows by 1. At the limit: states 1, 2, 3 fall with 35 reason 2; state 4 gives 33, to 3."
unfoldable pub on_tick : Setup → (late : Bool) → State → Outcome
on_tick s b idle = done idle []
on_tick s true (single T w t) = fall s false w 2
on_tick s false (single T w t) = done (single T w (suc t)) []
on_tick s true (multi T k t) = fall s true (ids_of k) 2
on_tick s false (multi T k t) = done (multi T k (suc t)) []
on_tick s true (ending T w t) = fall s true w 2
on_tick s false (ending T w t) = done (ending T w (suc t)) []
on_tick s true (assoc T w t) = done (ending T w 0) (send fin ∷ [])
on_tick s false (assoc T w t) = done (assoc T w (suc t)) []

-- ---------------------------------------------------------------- 10

-- "With a valid single frame: confirmation 0 gives 20, then 31 rejected; 1 gives 21, then 31 rejected with an acknowledgement; stay in 0. Any
-- other valid frame: 35 reason 10."
unfoldable pub greet : Setup → (maintained : Bool) → Terms → (extensions : ℕ) → Msg → Outcome
greet s true a e m = done idle (with_seen e (send (cut 10) ∷ []))
greet s false a e (plain i r q b) = done idle (with_seen e (give a (plain i r q b) ∷ send (reply false None) ∷ []))
greet s false a e (sure i r q b) =
    done idle (with_seen e (give a (sure i r q b) ∷ send (reply false (Some (good (ack s i b) 0))) ∷ []))

-- "10 without a frame: 31 accepted, to 4 with those terms. … Faulty: 35 with the fault. Both stay in 0 with no line 24."
unfoldable pub first_contact : Setup → Terms → Option Reading → Outcome
first_contact s a None = done (assoc a [] 0) (send (reply true None) ∷ [])
first_contact s a (Some (bad n)) = done idle (send (cut n) ∷ [])
first_contact s a (Some (good (msg m) e)) = greet s (body_of m).maintained a e m
first_contact s a (Some (good (note k r i q b) e)) = done idle (with_seen e (send (cut 10) ∷ []))

unfoldable pub on_start : Setup → Terms → Option Reading → State → Outcome
on_start s a f idle = first_contact s a f
on_start s a f (single T w t) = refused WrongState
on_start s a f (multi T k t) = refused WrongState
on_start s a f (ending T w t) = refused WrongState
on_start s a f (assoc T w t) = refused WrongState

-- ---------------------------------------------------------------- 11

-- Tables 1.3-27 and 1.3-29: 0 for confirmedOk, else 1
unfoldable pub result_of : Kind → Result
result_of ok = success
result_of not_ok = failed
result_of unknown = failed

-- a valid frame in answer to a single-shot transfer "gives 22 with 0 for confirmedOk, else 1 (Table 1.3-27)"
unfoldable pub single_result : Frame → Result
single_result (msg m) = failed
single_result (note k r i q b) = result_of k

-- "if waiting, a valid frame gives 22 …; an absent or faulty frame gives 22 uncertain (Table 1.3-28). If nobody waits the frame isn't read."
unfoldable pub answered_by : Setup → List ℕ → Option Reading → List Out
answered_by s [] f = []
answered_by s (i ∷ w) None = answer i uncertain (local s false unknown i) ∷ []
answered_by s (i ∷ w) (Some (bad n)) = answer i uncertain (local s false unknown i) ∷ []
answered_by s (i ∷ w) (Some (good f e)) = with_seen e (answer i (single_result f) f ∷ [])

-- "accepted without a frame sends the kept frame by 32, to 4; with octets present, unread, fall with 35 reason 10"
unfoldable pub begun : Setup → Terms → Msg → Option Reading → Outcome
begun s a k None = done (assoc a (ids_of k) 0) (send (dat (good (msg k) 0)) ∷ [])
begun s a k (Some f) = fall s true (ids_of k) 10

-- "11 in 1: rejected, to 0 … Accepted: fall with 35 reason 10, the frame unread." "11 in 2: … Rejected: any waiting identifier answered failed,
-- line 24 reason 3, to 0; the frame isn't read."
unfoldable pub on_reply : Setup → (accepted : Bool) → Option Reading → State → Outcome
on_reply s a f idle = refused WrongState
on_reply s true f (single T w t) = fall s false w 10
on_reply s false f (single T w t) = done idle (answered_by s w f)
on_reply s true f (multi T k t) = begun s T k f
on_reply s false f (multi T k t) = done idle (refuse_all s (ids_of k) (gone 3 ∷ []))
on_reply s a f (ending T w t) = refused WrongState
on_reply s a f (assoc T w t) = refused WrongState

-- ---------------------------------------------------------------- 12

-- "2 to 4 give 22 if the reference is waiting (0 for confirmedOk, else 1, Table 1.3-29), else nothing"; the option is the list without it
unfoldable pub noted : (extensions : ℕ) → Kind → (ref : ℕ) → Frame → Option (List ℕ) → List Out
noted e k r f None = with_seen e []
noted e k r f (Some v) = with_seen e (answer r (result_of k) f ∷ [])

unfoldable pub left_waiting : List ℕ → Option (List ℕ) → List ℕ
left_waiting w None = w
left_waiting w (Some v) = v

-- "12 in 3 or 4: a faulty frame makes a fall with 35. Otherwise elapsed 0 in state 4, unchanged in 3 (ours). Confirmation 0 gives 20; 1 gives 21,
-- then in state 4 only an acknowledgement by 32; 2 to 4 give 22 … Ending takes confirmations too (ours)."
unfoldable pub on_dat : Setup → Reading → State → Outcome
on_dat s f idle = refused WrongState
on_dat s f (single T w t) = refused WrongState
on_dat s f (multi T k t) = refused WrongState
on_dat s (bad n) (ending T w t) = fall s true w n
on_dat s (good (msg m) e) (ending T w t) = done (ending T w t) (with_seen e (give T m ∷ []))
on_dat s (good (note k r i q b) e) (ending T w t) =
    done (ending T (left_waiting w (without r w)) t) (noted e k r (note k r i q b) (without r w))
on_dat s (bad n) (assoc T w t) = fall s true w n
on_dat s (good (msg (plain i r q b)) e) (assoc T w t) = done (assoc T w 0) (with_seen e (give T (plain i r q b) ∷ []))
on_dat s (good (msg (sure i r q b)) e) (assoc T w t) =
    done (assoc T w 0) (with_seen e (give T (sure i r q b) ∷ send (dat (good (ack s i b) 0)) ∷ []))
on_dat s (good (note k r i q b) e) (assoc T w t) =
    done (assoc T (left_waiting w (without r w)) 0) (noted e k r (note k r i q b) (without r w))

-- ---------------------------------------------------------------- 13, 14, 15, 16

-- "13: 34 accepted, all waiting answered uncertain, 23, to 0."
unfoldable pub on_fin : Setup → State → Outcome
on_fin s idle = refused WrongState
on_fin s (single T w t) = refused WrongState
on_fin s (multi T k t) = refused WrongState
on_fin s (ending T w t) = refused WrongState
on_fin s (assoc T w t) = done idle (send (fin_ok true) ∷ unsure s true w (ended ∷ []))

-- "14 accepted: all waiting answered uncertain, to 0. 14 rejected: to 4."
unfoldable pub on_fin_ok : Setup → (accepted : Bool) → State → Outcome
on_fin_ok s a idle = refused WrongState
on_fin_ok s a (single T w t) = refused WrongState
on_fin_ok s a (multi T k t) = refused WrongState
on_fin_ok s a (assoc T w t) = refused WrongState
on_fin_ok s true (ending T w t) = done idle (unsure s true w [])
on_fin_ok s false (ending T w t) = done (assoc T w 0) []

-- "15, 16: fall without 35, reason 0 or 1."
unfoldable pub on_abort : Setup → (reason : ℕ) → State → Outcome
on_abort s r idle = refused WrongState
on_abort s r (single T w t) = quiet_fall s false w r
on_abort s r (multi T k t) = quiet_fall s true (ids_of k) r
on_abort s r (ending T w t) = quiet_fall s true w r
on_abort s r (assoc T w t) = quiet_fall s true w r
