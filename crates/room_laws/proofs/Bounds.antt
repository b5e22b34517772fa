-- Every event's lines are within 1,024 octets and ten lines, in every state of a unit. Closed by cases on the state and on what was read.
use Rattle.std.specs.Prelude.{None, Option, Some}
use Prim.Native.Nat.{ℕ, zero, suc, ◌≤◌}
use mathlib.Core.Path.{◌≡◌}
use mathlib.Core.Bool.{Bool, true, false}
use mathlib.Core.List.{List, [], ◌∷◌}
use native.Mathlib.Omega.{arith}
use lib.ListN.{length}
use Rattle.octets.specs.Choice.{pick}
use Rattle.book.specs.declared.Terms.{Terms}
use Rattle.book.specs.declared.Refusal.{Refusal}
use Rattle.book.specs.Book.{Msg, plain, sure, Kind, unknown, Frame, msg, note, Reading, bad, good, start, reply, dat, fin, fin_ok, cut, uncertain, Out, give, answer, ended, gone, send, State, idle, single, multi, ending, assoc, Setup, Outcome, refused, done, settled, ids_of, waiting_of, without, body_of, ack, local, fall, quiet_fall, vet, bar, on_single, on_multi, on_shot, on_vetted, on_request, on_end, on_tick, greet, first_contact, on_start, result_of, single_result, answered_by, begun, on_reply, noted, on_dat, on_fin, on_fin_ok, on_abort}
use Rattle.book.specs.View.{msg_octets, frame_octets, frame_message}
use Rattle.book.specs.Lines.{line_of, laid_out, read_octets, held_octets}
use Rattle.room_laws.proofs.Widths.{Within, nothing, line, local_short, ack_short, unsure_within, refuse_within, seen_within}

-- a refusal, or lines that the buffer holds
pub data Fits : Outcome → Type 0 where
  barred : {n : Refusal} → Fits (refused n)
  fits : {st : State} {os : List Out} {n k : ℕ} → Within os n k → n ≤ 1024 → k ≤ 10 → Fits (done st os)

pub fits_pick : (b : Bool) {x y : Outcome} → Fits x → Fits y → Fits (pick b x y)
fits_pick true f g = f
fits_pick false f g = g

pub fits_done : {o : Outcome} → Fits o → (st : State) (os : List Out) → o ≡ done st os → (length (laid_out os) ≤ 1024) × (length os ≤ 10)
fits_done barred st os e = let z : ◌≡◌ {A = ℕ} 0 1 = cc in absurd (omega arith)
fits_done (fits {os = os'} w h l) st os e =
    let q : os' ≡ os = cc in
    let x = w.size in
    let y = w.lines in
    let z : (length (laid_out os') ≤ 1024) × (length os' ≤ 10) = (omega arith, omega arith) in
    rw q at z

-- a unit without lines to say
quiet : {st : State} → Fits (done st [])
quiet = fits nothing (omega arith) (omega arith)

one : (o : Out) (c : ℕ) {st : State} → length (line_of o) ≤ c → c ≤ 1000 → Fits (done st (o ∷ []))
one o c h l = fits (line o c h nothing) (omega arith) (omega arith)

-- the frame that is kept
abbrev pub held_by : State → List ℕ
held_by idle = []
held_by (single T w t) = []
held_by (multi T k t) = msg_octets k
held_by (ending T w t) = []
held_by (assoc T w t) = []

-- ---- a message's octets are its frame's

give_short : (a : Terms) (m : Msg) → length (frame_octets (msg m)) ≤ 554 → length (line_of (give a m)) ≤ 558
unfolding frame_octets frame_message msg_octets
give_short a m h = omega arith

-- ---- 01 and 02, 03

module _ (a : Terms) (m : Msg) (h : length (frame_octets (msg m)) ≤ 554) where
  single_fits : (st : State) → Fits (on_single a m st)
  unfolding on_single
  single_fits idle = one (send (start (settled a) (Some (good (msg m) 0)))) 558 (omega arith) (omega arith)
  single_fits (single T w t) = barred
  single_fits (multi T k t) = barred
  single_fits (ending T w t) = barred
  single_fits (assoc T w t) = barred

  multi_fits : (b : Option Refusal) (st : State) → Fits (on_multi b a m st)
  unfolding on_multi
  multi_fits b idle = one (send (start (settled a) None)) 4 (omega arith) (omega arith)
  multi_fits b (single T w t) = barred
  multi_fits b (multi T k t) = barred
  multi_fits b (ending T w t) = barred
  multi_fits (Some n) (assoc T w t) = barred
  multi_fits None (assoc T w t) = one (send (dat (good (msg m) 0))) 555 (omega arith) (omega arith)

  shot_fits : (b : Bool) (st : State) → Fits (on_shot b a m st)
  unfolding on_shot
  shot_fits false st = single_fits st
  shot_fits true st = multi_fits (bar a m st) st

pub request_fits : (c : Bool) (a : Terms) (r : Reading) (st : State) → length (read_octets r) ≤ 554 → Fits (on_request c a r st)
unfolding on_request on_vetted vet body_of
request_fits c a (bad n) st h = barred
request_fits c a (good f (suc n)) st h = barred
request_fits c a (good (note k r i q b) zero) st h = barred
request_fits true a (good (msg (plain i r q b)) zero) st h = barred
request_fits false a (good (msg (plain i r q b)) zero) st h = shot_fits a (plain i r q b) h b.maintained st
request_fits true a (good (msg (sure i r q b)) zero) st h = shot_fits a (sure i r q b) h b.maintained st
request_fits false a (good (msg (sure i r q b)) zero) st h = barred

pub end_fits : (st : State) → Fits (on_end st)
unfolding on_end
end_fits idle = barred
end_fits (single T w t) = barred
end_fits (multi T k t) = barred
end_fits (ending T w t) = barred
end_fits (assoc T w t) = one (send fin) 1 (omega arith) (omega arith)

module _ (s : Setup) (named : length s.name ≤ 32) where
  -- ---- falls
  fall_fits : (m : Bool) (w : List ℕ) (r : ℕ) → length w ≤ 8 → Fits (fall s m w r)
  unfolding fall
  fall_fits m w r h =
      fits (line (send (cut r)) 2 (omega arith) (unsure_within s named m w (line (gone r) 2 (omega arith) nothing))) (omega arith) (omega arith)

  quiet_fits : (m : Bool) (w : List ℕ) (r : ℕ) → length w ≤ 8 → Fits (quiet_fall s m w r)
  unfolding quiet_fall
  quiet_fits m w r h = fits (unsure_within s named m w (line (gone r) 2 (omega arith) nothing)) (omega arith) (omega arith)

  -- ---- 04
  pub tick_fits : (b : Bool) (st : State) → length (waiting_of st) ≤ 8 → Fits (on_tick s b st)
  unfolding on_tick waiting_of
  tick_fits b idle h = quiet
  tick_fits true (single T w t) h = fall_fits false w 2 h
  tick_fits false (single T w t) h = quiet
  tick_fits true (multi T k t) h = fall_fits true (ids_of k) 2 h
  tick_fits false (multi T k t) h = quiet
  tick_fits true (ending T w t) h = fall_fits true w 2 h
  tick_fits false (ending T w t) h = quiet
  tick_fits true (assoc T w t) h = one (send fin) 1 (omega arith) (omega arith)
  tick_fits false (assoc T w t) h = quiet

  -- ---- 10
  greet_fits : (b : Bool) (a : Terms) (e : ℕ) (m : Msg) → length (frame_octets (msg m)) ≤ 554 → Fits (greet s b a e m)
  unfolding greet
  greet_fits true a e m h = fits (seen_within e (line (send (cut 10)) 2 (omega arith) nothing)) (omega arith) (omega arith)
  greet_fits false a e (plain i r q b) h =
      fits (seen_within e (line (give a (plain i r q b)) 558 (give_short a (plain i r q b) h) (line (send (reply false None)) 2 (omega arith) nothing)))
      (omega arith) (omega arith)
  greet_fits false a e (sure i r q b) h =
      let l = ack_short s named i b in
      fits (seen_within e (line (give a (sure i r q b)) 558 (give_short a (sure i r q b) h)
      (line (send (reply false (Some (good (ack s i b) 0)))) 40 (omega arith) nothing)))
      (omega arith) (omega arith)

  first_fits : (a : Terms) (f : Option Reading) → length (held_octets f) ≤ 554 → Fits (first_contact s a f)
  unfolding first_contact
  first_fits a None h = one (send (reply true None)) 2 (omega arith) (omega arith)
  first_fits a (Some (bad n)) h = one (send (cut n)) 2 (omega arith) (omega arith)
  first_fits a (Some (good (msg m) e)) h = greet_fits (body_of m).maintained a e m h
  first_fits a (Some (good (note k r i q b) e)) h = fits (seen_within e (line (send (cut 10)) 2 (omega arith) nothing)) (omega arith) (omega arith)

  pub start_fits : (a : Terms) (f : Option Reading) (st : State) → length (held_octets f) ≤ 554 → Fits (on_start s a f st)
  unfolding on_start
  start_fits a f idle h = first_fits a f h
  start_fits a f (single T w t) h = barred
  start_fits a f (multi T k t) h = barred
  start_fits a f (ending T w t) h = barred
  start_fits a f (assoc T w t) h = barred

  -- ---- 11
  answered_fits : (w : List ℕ) (f : Option Reading) → length (held_octets f) ≤ 554 → Fits (done idle (answered_by s w f))
  unfolding answered_by
  answered_fits [] f h = quiet
  answered_fits (i ∷ w) None h =
      let l = local_short s named false unknown i in
      one (answer i uncertain (local s false unknown i)) 40 (omega arith) (omega arith)
  answered_fits (i ∷ w) (Some (bad n)) h =
      let l = local_short s named false unknown i in
      one (answer i uncertain (local s false unknown i)) 40 (omega arith) (omega arith)
  answered_fits (i ∷ w) (Some (good f e)) h =
      fits (seen_within e (line (answer i (single_result f) f) 556 (omega arith) nothing)) (omega arith) (omega arith)

  begun_fits : (a : Terms) (k : Msg) (f : Option Reading) → length (ids_of k) ≤ 8 → length (msg_octets k) ≤ 554 → Fits (begun s a k f)
  unfolding begun frame_octets frame_message msg_octets
  begun_fits a k None h l = one (send (dat (good (msg k) 0))) 555 (omega arith) (omega arith)
  begun_fits a k (Some f) h l = fall_fits true (ids_of k) 10 h

  pub reply_fits : (b : Bool) (f : Option Reading) (st : State) → length (waiting_of st) ≤ 8 → length (held_by st) ≤ 554 → length (held_octets f) ≤ 554
      → Fits (on_reply s b f st)
  unfolding on_reply waiting_of
  reply_fits b f idle h l r = barred
  reply_fits true f (single T w t) h l r = fall_fits false w 10 h
  reply_fits false f (single T w t) h l r = answered_fits w f r
  reply_fits true f (multi T k t) h l r = begun_fits T k f h l
  reply_fits false f (multi T k t) h l r = fits (refuse_within s named (ids_of k) (line (gone 3) 2 (omega arith) nothing)) (omega arith) (omega arith)
  reply_fits b f (ending T w t) h l r = barred
  reply_fits b f (assoc T w t) h l r = barred

  -- ---- 12
  noted_fits : (st : State) (e : ℕ) (k : Kind) (r : ℕ) (f : Frame) (v : Option (List ℕ)) → length (frame_octets f) ≤ 554 → Fits (done st (noted e k r f v))
  unfolding noted
  noted_fits st e k r f None h = fits (seen_within e nothing) (omega arith) (omega arith)
  noted_fits st e k r f (Some v) h = fits (seen_within e (line (answer r (result_of k) f) 556 (omega arith) nothing)) (omega arith) (omega arith)

  pub data_fits : (f : Reading) (st : State) → length (waiting_of st) ≤ 8 → length (read_octets f) ≤ 554 → Fits (on_dat s f st)
  unfolding on_dat waiting_of
  data_fits f idle h l = barred
  data_fits f (single T w t) h l = barred
  data_fits f (multi T k t) h l = barred
  data_fits (bad n) (ending T w t) h l = fall_fits true w n h
  data_fits (good (msg m) e) (ending T w t) h l =
      fits (seen_within e (line (give T m) 558 (give_short T m l) nothing)) (omega arith) (omega arith)
  data_fits (good (note k r i q b) e) (ending T w t) h l = noted_fits _ e k r (note k r i q b) (without r w) l
  data_fits (bad n) (assoc T w t) h l = fall_fits true w n h
  data_fits (good (msg (plain i r q b)) e) (assoc T w t) h l =
      fits (seen_within e (line (give T (plain i r q b)) 558 (give_short T (plain i r q b) l) nothing)) (omega arith) (omega arith)
  data_fits (good (msg (sure i r q b)) e) (assoc T w t) h l =
      let j = ack_short s named i b in
      fits (seen_within e (line (give T (sure i r q b)) 558 (give_short T (sure i r q b) l)
      (line (send (dat (good (ack s i b) 0))) 39 (omega arith) nothing)))
      (omega arith) (omega arith)
  data_fits (good (note k r i q b) e) (assoc T w t) h l = noted_fits _ e k r (note k r i q b) (without r w) l

  -- ---- 13, 14, 15, 16
  pub fin_fits : (st : State) → length (waiting_of st) ≤ 8 → Fits (on_fin s st)
  unfolding on_fin waiting_of
  fin_fits idle h = barred
  fin_fits (single T w t) h = barred
  fin_fits (multi T k t) h = barred
  fin_fits (ending T w t) h = barred
  fin_fits (assoc T w t) h =
      fits (line (send (fin_ok true)) 2 (omega arith) (unsure_within s named true w (line ended 1 (omega arith) nothing))) (omega arith) (omega arith)

  pub fin_ok_fits : (b : Bool) (st : State) → length (waiting_of st) ≤ 8 → Fits (on_fin_ok s b st)
  unfolding on_fin_ok waiting_of
  fin_ok_fits b idle h = barred
  fin_ok_fits b (single T w t) h = barred
  fin_ok_fits b (multi T k t) h = barred
  fin_ok_fits b (assoc T w t) h = barred
  fin_ok_fits true (ending T w t) h = fits (unsure_within s named true w nothing) (omega arith) (omega arith)
  fin_ok_fits false (ending T w t) h = quiet

  pub abort_fits : (r : ℕ) (st : State) → length (waiting_of st) ≤ 8 → Fits (on_abort s r st)
  unfolding on_abort waiting_of
  abort_fits r idle h = barred
  abort_fits r (single T w t) h = quiet_fits false w r h
  abort_fits r (multi T k t) h = quiet_fits true (ids_of k) r h
  abort_fits r (ending T w t) h = quiet_fits true w r h
  abort_fits r (assoc T w t) h = quiet_fits true w r h
