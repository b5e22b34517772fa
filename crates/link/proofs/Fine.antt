-- What a unit gives out can be read: every frame in its lines is one that 01 allows, and of edition 1. Closed by cases on the rule and the state.
use Rattle.std.specs.Prelude.{None, Option, Some}
use Prim.Native.Nat.{ℕ, zero, suc, ◌<◌, ◌≤◌}
use mathlib.Core.Path.{◌≡◌, refl, sym}
use mathlib.Core.Bool.{Bool, true, false}
use mathlib.Core.List.{List, [], ◌∷◌}
use native.Mathlib.Omega.{arith}
use borrow.Author.Tests.{ltb-true, leb-true, le-ltb, ne_eqb, eqb-false}
use lib.Dec.{eqb, ltb, leb}
use lib.ListN.{length}
use Rattle.octets.specs.Choice.{pick, both}
use Rattle.frame.specs.Message.{lacks}
use Rattle.frame.specs.Writing.{Allowed, fault_in, wrong_sender, wrong_data}
use Rattle.book.specs.declared.Terms.{Terms}
use Rattle.book.specs.Sound.{within_limits}
use Rattle.book.specs.declared.Refusal.{Refusal}
use Rattle.book.specs.Book.{Body, Msg, plain, sure, Kind, ok, not_ok, unknown, Frame, msg, note, Reading, bad, good, Line, start, reply, dat, fin, fin_ok, cut, Result, Out, give, answer, ended, gone, seen, send, State, idle, single, multi, ending, assoc, Setup, Outcome, refused, done, settled, ids_of, body_of, without, ack, ack_body, local, unsure, refuse_all, with_seen, fall, quiet_fall, vet, bar, on_single, on_multi, on_shot, on_vetted, on_request, on_end, on_tick, greet, first_contact, on_start, answered_by, begun, on_reply, noted, on_dat, on_fin, on_fin_ok, on_abort}
use Rattle.book.specs.View.{frame_message}
use Rattle.sound_laws.proofs.Within.{Rated, Within, in_multi, Limited, Keepable, both_right}

-- ---- what is fine

abbrev pub AllowedFrame : Frame → Type 0
AllowedFrame f = Allowed (frame_message f)

-- a frame that is handed over: allowed, and without extension fields
pub data FineRead : Reading → Type 0 where
  fine : {f : Frame} → AllowedFrame f → FineRead (good f 0)

pub data FineHeld : Option Reading → Type 0 where
  nothing : FineHeld None
  held : {r : Reading} → FineRead r → FineHeld (Some r)

pub data FineLine : Line → Type 0 where
  starts : {a : Terms} {h : Option Reading} → Rated a → FineHeld h → FineLine (start a h)
  replies : {b : Bool} {h : Option Reading} → FineHeld h → FineLine (reply b h)
  dats : {r : Reading} → FineRead r → FineLine (dat r)
  fins : FineLine fin
  fin_oks : {b : Bool} → FineLine (fin_ok b)
  cuts : {r : ℕ} → FineLine (cut r)

pub data FineOut : Out → Type 0 where
  gives : {a : Terms} {m : Msg} → AllowedFrame (msg m) → FineOut (give a m)
  answers : {i : ℕ} {r : Result} {f : Frame} → AllowedFrame f → FineOut (answer i r f)
  ends : FineOut ended
  gones : {r : ℕ} → FineOut (gone r)
  seens : {n : ℕ} → FineOut (seen n)
  sends : {l : Line} → FineLine l → FineOut (send l)

pub data AllFine : List Out → Type 0 where
  none_left : AllFine []
  also : {o : Out} {os : List Out} → FineOut o → AllFine os → AllFine (o ∷ os)

pub data FineOutcome : Outcome → Type 0 where
  barred : {n : Refusal} → FineOutcome (refused n)
  fine_done : {st : State} {os : List Out} → AllFine os → FineOutcome (done st os)

-- a frame that was read is allowed; a fault is none
pub data Heard : Reading → Type 0 where
  faulty : {n : ℕ} → Heard (bad n)
  whole : {f : Frame} {n : ℕ} → AllowedFrame f → Heard (good f n)

pub data HeardHeld : Option Reading → Type 0 where
  silent : HeardHeld None
  spoken : {r : Reading} → Heard r → HeardHeld (Some r)

one : {st : State} {o : Out} → FineOut o → FineOutcome (done st (o ∷ []))
one f = fine_done (also f none_left)

-- ---- the confirmations that a unit makes

pub record Named (s : Setup) : Type 0 where
  pub some_name : 0 < length s.name
  pub short : length s.name ≤ 32

pub named : (s : Setup) → Limited s → Named s
unfolding within_limits
named s l =
    let a = both_right (ltb 0 s.start_limit) (both (ltb 0 s.end_limit) (both (ltb 0 s.inactivity_limit) (both (ltb 0 (length s.name)) (leb (length s.name) 32)))) l in
    let b = both_right (ltb 0 s.end_limit) (both (ltb 0 s.inactivity_limit) (both (ltb 0 (length s.name)) (leb (length s.name) 32))) a in
    let c = both_right (ltb 0 s.inactivity_limit) (both (ltb 0 (length s.name)) (leb (length s.name) 32)) b in
    record {
      some_name = ltb-true 0 (length s.name) (Rattle.sound_laws.proofs.Within.both_left (ltb 0 (length s.name)) (leb (length s.name) 32) c);
      short = leb-true (length s.name) 32 (both_right (ltb 0 (length s.name)) (leb (length s.name) 32) c);
    }

module _ (s : Setup) (n : Named s) where
  sender_fine : wrong_sender (Some s.name) ≡ false
  unfolding wrong_sender
  sender_fine = rw (ne_eqb (length s.name) 0 (λ e. omega (arith, n.some_name)), le-ltb 32 (length s.name) n.short)

  note_allowed : (k : Kind) (i : ℕ) (m : Bool) (t : Option ℕ) → AllowedFrame (note k i None s.name (record { maintained = m; type = t; user_data = None }))
  unfolding frame_message fault_in lacks wrong_data
  note_allowed ok i m t = rw sender_fine
  note_allowed not_ok i m t = rw sender_fine
  note_allowed unknown i m t = rw sender_fine

  pub local_allowed : (m : Bool) (k : Kind) (i : ℕ) → AllowedFrame (local s m k i)
  unfolding local
  local_allowed m k i = note_allowed k i m None

  pub ack_allowed : (i : ℕ) (b : Body) → AllowedFrame (ack s i b)
  unfolding ack ack_body
  ack_allowed i b = note_allowed ok i b.maintained b.type

  -- ---- lists of answers, line 25, a fall

  unsure_fine : (m : Bool) (w : List ℕ) {rest : List Out} → AllFine rest → AllFine (unsure s m w rest)
  unfolding unsure
  unsure_fine m [] f = f
  unsure_fine m (i ∷ w) f = also (answers (local_allowed m unknown i)) (unsure_fine m w f)

  refuse_fine : (w : List ℕ) {rest : List Out} → AllFine rest → AllFine (refuse_all s w rest)
  unfolding refuse_all
  refuse_fine [] f = f
  refuse_fine (i ∷ w) f = also (answers (local_allowed true not_ok i)) (refuse_fine w f)

  fall_fine : (m : Bool) (w : List ℕ) (r : ℕ) → FineOutcome (fall s m w r)
  unfolding fall
  fall_fine m w r = fine_done (also (sends cuts) (unsure_fine m w (also gones none_left)))

  quiet_fine : (m : Bool) (w : List ℕ) (r : ℕ) → FineOutcome (quiet_fall s m w r)
  unfolding quiet_fall
  quiet_fine m w r = fine_done (unsure_fine m w (also gones none_left))

seen_fine : (e : ℕ) {os : List Out} → AllFine os → AllFine (with_seen e os)
unfolding with_seen
seen_fine zero f = f
seen_fine (suc e) f = also seens f

-- ---- 01, 02, 03, 04

-- RER 0 counts as low
settled_rated : (a : Terms) → a.rer ≤ 2 → Rated (settled a)
unfolding settled
settled_rated a h = go (eqb a.rer 0) refl
  where
    go : (b : Bool) → b ≡ eqb a.rer 0 → Rated (record { class = a.class; priority = a.priority; rer = pick b 1 a.rer })
    go true e = record { low = omega arith; high = omega arith }
    go false e = record { low = let n = eqb-false a.rer 0 (sym e) in omega arith; high = omega arith }

module _ (a : Terms) (rated : Rated (settled a)) (m : Msg) (al : AllowedFrame (msg m)) where
  single_fine : (st : State) → FineOutcome (on_single a m st)
  unfolding on_single
  single_fine idle = one (sends (starts rated (held (fine al))))
  single_fine (single T w t) = barred
  single_fine (multi T k t) = barred
  single_fine (ending T w t) = barred
  single_fine (assoc T w t) = barred

  multi_fine : (b : Option Refusal) (st : State) → FineOutcome (on_multi b a m st)
  unfolding on_multi
  multi_fine b idle = one (sends (starts rated nothing))
  multi_fine b (single T w t) = barred
  multi_fine b (multi T k t) = barred
  multi_fine b (ending T w t) = barred
  multi_fine (Some n) (assoc T w t) = barred
  multi_fine None (assoc T w t) = one (sends (dats (fine al)))

  shot_fine : (b : Bool) (st : State) → FineOutcome (on_shot b a m st)
  unfolding on_shot
  shot_fine false st = single_fine st
  shot_fine true st = multi_fine (bar a m st) st

pub request_fine : (c : Bool) (a : Terms) → a.rer ≤ 2 → (r : Reading) (st : State) → Heard r → FineOutcome (on_request c a r st)
unfolding on_request on_vetted vet
request_fine c a l (bad n) st h = barred
request_fine c a l (good f (suc n)) st h = barred
request_fine c a l (good (note k r i q b) zero) st h = barred
request_fine true a l (good (msg (plain i r q b)) zero) st h = barred
request_fine false a l (good (msg (plain i r q b)) zero) st (whole al) = shot_fine a (settled_rated a l) (plain i r q b) al (body_of (plain i r q b)).maintained st
request_fine true a l (good (msg (sure i r q b)) zero) st (whole al) = shot_fine a (settled_rated a l) (sure i r q b) al (body_of (sure i r q b)).maintained st
request_fine false a l (good (msg (sure i r q b)) zero) st h = barred

pub end_fine : (st : State) → FineOutcome (on_end st)
unfolding on_end
end_fine idle = barred
end_fine (single T w t) = barred
end_fine (multi T k t) = barred
end_fine (ending T w t) = barred
end_fine (assoc T w t) = one (sends fins)

module _ (s : Setup) (n : Named s) where
  pub tick_fine : (b : Bool) (st : State) → FineOutcome (on_tick s b st)
  unfolding on_tick
  tick_fine b idle = fine_done none_left
  tick_fine true (single T w t) = fall_fine s n false w 2
  tick_fine false (single T w t) = fine_done none_left
  tick_fine true (multi T k t) = fall_fine s n true (ids_of k) 2
  tick_fine false (multi T k t) = fine_done none_left
  tick_fine true (ending T w t) = fall_fine s n true w 2
  tick_fine false (ending T w t) = fine_done none_left
  tick_fine true (assoc T w t) = one (sends fins)
  tick_fine false (assoc T w t) = fine_done none_left

  -- ---- 10

  greet_fine : (b : Bool) (a : Terms) (e : ℕ) (m : Msg) → AllowedFrame (msg m) → FineOutcome (greet s b a e m)
  unfolding greet
  greet_fine true a e m al = fine_done (seen_fine e (also (sends cuts) none_left))
  greet_fine false a e (plain i r q b) al = fine_done (seen_fine e (also (gives al) (also (sends (replies nothing)) none_left)))
  greet_fine false a e (sure i r q b) al = fine_done (seen_fine e (also (gives al) (also (sends (replies (held (fine (ack_allowed s n i b))))) none_left)))

  contact_fine : (a : Terms) (h : Option Reading) → HeardHeld h → FineOutcome (first_contact s a h)
  unfolding first_contact
  contact_fine a None h = one (sends (replies nothing))
  contact_fine a (Some (bad k)) h = one (sends cuts)
  contact_fine a (Some (good (msg m) e)) (spoken (whole al)) = greet_fine (body_of m).maintained a e m al
  contact_fine a (Some (good (note k r i q b) e)) h = fine_done (seen_fine e (also (sends cuts) none_left))

  pub start_fine : (a : Terms) (h : Option Reading) (st : State) → HeardHeld h → FineOutcome (on_start s a h st)
  unfolding on_start
  start_fine a f idle h = contact_fine a f h
  start_fine a f (single T w t) h = barred
  start_fine a f (multi T k t) h = barred
  start_fine a f (ending T w t) h = barred
  start_fine a f (assoc T w t) h = barred

  -- ---- 11

  answered_fine : (w : List ℕ) (h : Option Reading) → HeardHeld h → AllFine (answered_by s w h)
  unfolding answered_by
  answered_fine [] f h = none_left
  answered_fine (i ∷ w) None h = also (answers (local_allowed s n false unknown i)) none_left
  answered_fine (i ∷ w) (Some (bad k)) h = also (answers (local_allowed s n false unknown i)) none_left
  answered_fine (i ∷ w) (Some (good f e)) (spoken (whole al)) = seen_fine e (also (answers al) none_left)

  begun_fine : (a : Terms) (k : Msg) → AllowedFrame (msg k) → (h : Option Reading) → FineOutcome (begun s a k h)
  unfolding begun
  begun_fine a k al None = one (sends (dats (fine al)))
  begun_fine a k al (Some f) = fall_fine s n true (ids_of k) 10

  kept_allowed : (k : Msg) → Keepable k → AllowedFrame (msg k)
  unfolding frame_message
  kept_allowed k h = h.allowed

  pub reply_fine : (b : Bool) (h : Option Reading) (st : State) → HeardHeld h → Within s st → FineOutcome (on_reply s b h st)
  unfolding on_reply
  reply_fine b f idle h w = barred
  reply_fine true f (single T v t) h w = fall_fine s n false v 10
  reply_fine false f (single T v t) h w = fine_done (answered_fine v f h)
  reply_fine true f (multi T k t) h (in_multi r l e) = begun_fine T k (kept_allowed k l) f
  reply_fine false f (multi T k t) h w = fine_done (refuse_fine s n (ids_of k) (also gones none_left))
  reply_fine b f (ending T v t) h w = barred
  reply_fine b f (assoc T v t) h w = barred

  -- ---- 12

  noted_fine : (e : ℕ) (k : Kind) (r : ℕ) (f : Frame) → AllowedFrame f → (o : Option (List ℕ)) → AllFine (noted e k r f o)
  unfolding noted
  noted_fine e k r f al None = seen_fine e none_left
  noted_fine e k r f al (Some v) = seen_fine e (also (answers al) none_left)

  pub dat_fine : (r : Reading) (st : State) → Heard r → FineOutcome (on_dat s r st)
  unfolding on_dat
  dat_fine f idle h = barred
  dat_fine f (single T w t) h = barred
  dat_fine f (multi T k t) h = barred
  dat_fine (bad k) (ending T w t) h = fall_fine s n true w k
  dat_fine (good (msg m) e) (ending T w t) (whole al) = fine_done (seen_fine e (also (gives al) none_left))
  dat_fine (good (note k r i q b) e) (ending T w t) (whole al) = fine_done (noted_fine e k r (note k r i q b) al (without r w))
  dat_fine (bad k) (assoc T w t) h = fall_fine s n true w k
  dat_fine (good (msg (plain i r q b)) e) (assoc T w t) (whole al) = fine_done (seen_fine e (also (gives al) none_left))
  dat_fine (good (msg (sure i r q b)) e) (assoc T w t) (whole al) =
      fine_done (seen_fine e (also (gives al) (also (sends (dats (fine (ack_allowed s n i b)))) none_left)))
  dat_fine (good (note k r i q b) e) (assoc T w t) (whole al) = fine_done (noted_fine e k r (note k r i q b) al (without r w))

  -- ---- 13, 14, 15, 16

  pub fin_fine : (st : State) → FineOutcome (on_fin s st)
  unfolding on_fin
  fin_fine idle = barred
  fin_fine (single T w t) = barred
  fin_fine (multi T k t) = barred
  fin_fine (ending T w t) = barred
  fin_fine (assoc T w t) = fine_done (also (sends fin_oks) (unsure_fine s n true w (also ends none_left)))

  pub fin_ok_fine : (b : Bool) (st : State) → FineOutcome (on_fin_ok s b st)
  unfolding on_fin_ok
  fin_ok_fine b idle = barred
  fin_ok_fine b (single T w t) = barred
  fin_ok_fine b (multi T k t) = barred
  fin_ok_fine b (assoc T w t) = barred
  fin_ok_fine true (ending T w t) = fine_done (unsure_fine s n true w none_left)
  fin_ok_fine false (ending T w t) = fine_done none_left

  pub abort_fine : (r : ℕ) (st : State) → FineOutcome (on_abort s r st)
  unfolding on_abort
  abort_fine r idle = barred
  abort_fine r (single T w t) = quiet_fine s n false w r
  abort_fine r (multi T k t) = quiet_fine s n true (ids_of k) r
  abort_fine r (ending T w t) = quiet_fine s n true w r
  abort_fine r (assoc T w t) = quiet_fine s n true w r
