-- A delivered line (10 to 16) keeps the invariant. Closed by cases on the configuration and on the next line, each by the flow's law for it.
use Rattle.std.specs.Prelude.{Option, Some}
use mathlib.Core.Path.{◌≡◌, refl, sym, ◌∙◌, ap}
use mathlib.Core.Bool.{Bool, true, false}
use mathlib.Core.List.{List, [], ◌∷◌, ◌++◌, append-nil, append_assoc}
use Prim.Native.Nat.{ℕ}
use Rattle.book.specs.Book.{msg, Body, Msg, plain, sure, State, idle, single, multi, ending, assoc, Setup, ids_of, waiting_of, without, quiet_fall, on_start, first_contact, on_reply, begun, answered_by, on_dat, on_fin, on_fin_ok, on_abort, greet, result_of, single_result, noted, left_waiting, ack, ack_body}
use Rattle.pair_laws.specs.Model.{Fields, grant, turn, Log, blank, log_handed, log_fate, log_sent, log_out, log_all, log_heard, answers, World, busy, inside, post, carry, emit, act, join, is_start, on_line, deliver_near, reach, hear, hear_start, act_there, extended, with_fields, near_inside, near_state, as_heard, log_read, log_given, log_okay}
use Rattle.pair_laws.specs.Statement.{Good, ids}
use Rattle.pair_laws.proofs.Facts.{Sent, mes, confirm, wire, log_seen, answers_seen, emit_seen, dats, dats-append, dats_post, emit_unsure, log_unsure, answers_unsure, eqb_refl, without_first, msgs, acks}
use Rattle.pair_laws.proofs.Flow.{Flow, Rest, past_of, past_of_rest, rest_of, rest_given, rest_past_ack, flow_plain, flow_acked, flow_unacked, flow_told, flow_past_ack, flow_past_msg, flow_add_ack}
use Rattle.pair_laws.proofs.Inv.{Owes, up, down, acked, unacked, Busy, in_single, in_multi, in_ending, in_assoc, by_peer, by_provider, last_fin, last_ok, left_going, left_granted, Talk, reply_plain, reply_sure, called_log, given_log, rested, turning, closing, severed, resting, calling_single, calling_multi, stranded_single, stranded_multi, Inv, talking, dead, free, free', opening, opening', fate_of, tail}
use Rattle.pair_laws.proofs.Close.{severed_flip, good_severed, good_flip}
use Rattle.pair_laws.proofs.Tools.{make_talking, make_free, make_left, make_opening', make_ahead, same_account, all_answered, busy_true, sever_again}
use Rattle.pair_laws.proofs.StepAsk.{sending, books_rebase}

without_eq : {w v : List ℕ} (r : ℕ) → w ≡ r ∷ v → without r w ≡ Some v
without_eq {w} {v} r e = rw e (without_first r v)

shot_of : State → Bool
shot_of idle = true
shot_of (single T w t) = false
shot_of (multi T k t) = true
shot_of (ending T w t) = true
shot_of (assoc T w t) = true

abort_busy : {u : State} (r : ℕ) → Busy u → (s : Setup) → on_abort s r u ≡ quiet_fall s (shot_of u) (waiting_of u) r
unfolding on_abort waiting_of shot_of
abort_busy r in_single s = refl
abort_busy r in_multi s = refl
abort_busy r in_ending s = refl
abort_busy r in_assoc s = refl

told_owes : {acc ans w v : List ℕ} (r : ℕ) → w ≡ r ∷ v → Owes acc ans w → Owes (acc ++ []) (ans ++ (r ∷ [])) v
told_owes {acc} {ans} {w} {v} r e p = record { sum = append-nil acc ∙ p.sum ∙ ap (λ z. ans ++ z) e ∙ sym (append_assoc ans (r ∷ []) v) }

-- What a line does to the data phase.
hear_plain : {a b : Log} {wa wb : List ℕ} {ea eb : Bool} {qa qb : List Sent} {una unb : List ℕ} (j jr : Option ℕ) (jq : Option (List ℕ)) (n : Body)
    (x : ℕ) →
    Talk a b wa wb ea eb qa (mes (plain j jr jq n) x ∷ qb) una unb → Talk (log_given (plain j jr jq n) a) b wa wb ea eb qa qb una unb
unfolding log_given log_okay
hear_plain j jr jq n x v = record {
  to_far = flow_past_msg _ x v.to_far;
  to_near = flow_plain j jr jq n x v.to_near;
  near_fate = v.near_fate;
  far_fate = v.far_fate;
}

hear_sure : {a b : Log} {wa wb : List ℕ} {ea eb : Bool} {qa qb : List Sent} {unb : List ℕ} (i : ℕ) (ir : Option ℕ) (iq : Option (List ℕ)) (n : Body)
    (x : ℕ) (y : List ℕ × Body × ℕ) →
    Talk a b wa wb ea eb qa (mes (sure i ir iq n) x ∷ qb) [] unb →
    Talk (log_given (sure i ir iq n) a) b wa wb ea eb (qa ++ (confirm i y ∷ [])) qb [] unb
unfolding log_given log_okay
hear_sure i ir iq n x y v = record {
  to_far = flow_add_ack i y (flow_past_msg _ x v.to_far);
  to_near = flow_acked i ir iq n x y v.to_near;
  near_fate = v.near_fate;
  far_fate = v.far_fate;
}

hear_late : {a b : Log} {wa wb : List ℕ} {ea eb : Bool} {qa qb : List Sent} {una unb : List ℕ} (m : Msg) (x : ℕ) →
    Talk a b wa wb ea eb qa (mes m x ∷ qb) una unb → Talk (log_given m a) b wa wb ea eb qa qb (una ++ ids_of m) unb
unfolding log_given log_okay
hear_late m x v = record {
  to_far = flow_past_msg m x v.to_far;
  to_near = flow_unacked m x v.to_near;
  near_fate = v.near_fate;
  far_fate = v.far_fate;
}

hear_ack : {a b : Log} {wa wb : List ℕ} {ea eb : Bool} {qa qb : List Sent} {una unb : List ℕ} (r : ℕ) (x : List ℕ × Body × ℕ) →
    Talk a b wa wb ea eb qa (confirm r x ∷ qb) una unb → Talk (log_okay r a) b (acks qb ++ (unb ++ ids (msgs qa))) wb ea eb qa qb una unb
unfolding log_given log_okay
hear_ack r x v = record {
  to_far = flow_told r x v.to_far;
  to_near = flow_past_ack r x v.to_near;
  near_fate = v.near_fate;
  far_fate = v.far_fate;
}

owed_first : {h g : List Msg} {o w : List ℕ} {q back : List Sent} {un : List ℕ} (r : ℕ) (x : List ℕ × Body × ℕ) →
    Flow h g o w q (confirm r x ∷ back) un → w ≡ r ∷ (acks back ++ (un ++ ids (msgs q)))
unfolding acks
owed_first r x f = f.owed

talk_blank : Talk blank blank [] [] false false [] [] [] []
unfolding blank msgs acks ids fate_of
talk_blank = record {
  to_far = record { moved = refl; seen = refl; owed = refl };
  to_near = record { moved = refl; seen = refl; owed = refl };
  near_fate = refl;
  far_fate = refl;
}

good_granted : (a b : Log) {w : List ℕ} {un : List ℕ} →
    Flow a.handed b.given a.okays w [] [] un → Rest b.handed a.given b.okays [] → Good (log_fate grant a) b
unfolding log_fate msgs
good_granted a b f r =
    let p = past_of f in
    let q = past_of_rest r in
    record {
      to_far = p.first;
      to_near = q.first;
      near_told = p.told;
      far_told = q.told;
      whole = λ o. (sym (f.moved ∙ append-nil b.given), sym (r.moved ∙ append-nil a.given));
    }

good_turned : (m : Msg) {a b : Log} → a ≡ called_log m → b ≡ given_log m → Good (log_fate turn a) b
unfolding log_fate called_log given_log ids
good_turned m ea eb = rw (ea, eb) (record {
  to_far = ([], refl);
  to_near = ([], refl);
  near_told = (ids_of m ++ [], refl);
  far_told = ([], refl);
  whole = λ o. (refl, refl);
})

good_turned_ok : (i : ℕ) (ir : Option ℕ) (iq : Option (List ℕ)) (n : Body) {a b : Log} → a ≡ called_log (sure i ir iq n) →
    b ≡ given_log (sure i ir iq n) → Good (log_okay i (log_fate turn a)) b
unfolding log_fate log_okay called_log given_log ids ids_of
good_turned_ok i ir iq n ea eb = rw (ea, eb) (record {
  to_far = ([], refl);
  to_near = ([], refl);
  near_told = ([], refl);
  far_told = ([], refl);
  whole = λ o. (refl, refl);
})

pub inv_hear : (x : Fields) {w : World} → Inv w → Inv (deliver_near x w)
unfolding deliver_near reach hear hear_start act_there is_start extended with_fields ack single_result noted left_waiting near_inside near_state as_heard inside busy on_line on_start first_contact on_reply begun answered_by on_dat on_fin on_fin_ok quiet_fall act join log_heard log_all log_out log_sent emit carry post answers waiting_of tail dats ids_of fate_of log_fate grant blank given_log log_handed on_abort greet result_of log_read log_given log_okay wire shot_of
inv_hear x (talking {qb = []} a up c e v k p q) = talking {qb = []} a up c e v k p q
inv_hear x (talking {d = d} {qa = qa} {qb = []} up down c e v k p q) =
    simp (eqb_refl, emit_unsure, log_unsure, answers_unsure)
    (make_left _ k (closing {q = qa} last_ok v.to_near (rest_of v.to_far) v.far_fate (rw v.near_fate left_going)) (all_answered p) q
    (dats-append d qa [] _))
inv_hear x (talking {d = d} {qa = qa} {qb = []} down down c e v k p q) =
    simp (eqb_refl, emit_unsure, log_unsure, answers_unsure)
    (make_left _ k (closing {q = qa} last_fin v.to_near (rest_of v.to_far) v.far_fate (rw v.near_fate left_granted))
    (all_answered p) q refl)
inv_hear x (talking {qa = qa} {qb = mes (plain j jr jq n) y ∷ qs} up b c e v k p q) =
    simp (eqb_refl, log_seen, answers_seen, emit_seen) (make_talking _ k qa qs up b c e (hear_plain j jr jq n y v) (same_account p) q refl refl)
inv_hear x (talking {s = s} {d = d} {qa = qa} {qb = mes (sure i ir iq n) y ∷ qs} up b acked e v k p q) =
    simp (eqb_refl, log_seen, answers_seen, emit_seen) (make_talking _ k (qa ++ (confirm i (s.name, ack_body n, x (ack s i n)) ∷ [])) qs up b acked e
    (hear_sure i ir iq n y _ v) (same_account p) q (dats_post d qa _) refl)
inv_hear x (talking {qa = qa} {qb = confirm r y ∷ qs} up b c e v k p q) =
    let o = owed_first r y v.to_far in
    simp (eqb_refl, log_seen, answers_seen, emit_seen, without_eq r o)
    (make_talking _ k qa qs up b c e (hear_ack r y v) (told_owes r o p) q refl refl)
inv_hear x (talking {qa = qa} {qb = mes m y ∷ qs} down b unacked e v k p q) =
    simp (eqb_refl, log_seen, answers_seen, emit_seen) (make_talking _ k qa qs down b unacked e (hear_late m y v) (same_account p) q refl refl)
inv_hear x (talking {qa = qa} {qb = confirm r y ∷ qs} down b c e v k p q) =
    let o = owed_first r y v.to_far in
    simp (eqb_refl, log_seen, answers_seen, emit_seen, without_eq r o)
    (make_talking _ k qa qs down b c e (hear_ack r y v) (told_owes r o p) q refl refl)
inv_hear x (dead a b c by_peer v k p q) =
    simp (eqb_refl, busy_true a, abort_busy 0 a, emit_unsure, log_unsure, answers_unsure)
    (make_left _ k (severed b c (severed_flip (sever_again v))) (all_answered p) q refl)
inv_hear x (dead a b c by_provider v k p q) =
    simp (eqb_refl, busy_true a, abort_busy 1 a, emit_unsure, log_unsure, answers_unsure)
    (make_left _ k (severed b c (severed_flip (sever_again v))) (all_answered p) q refl)
inv_hear x (free (rested h) (resting lt) k p q) = free (rested h) (resting lt) k p q
inv_hear x (free {e = e} {f = f} (rested h) (calling_single {m = plain j jr jq n} sh a y ne lt) k p q) =
    simp (sh, log_seen, answers_seen, emit_seen) (make_left _ (books_rebase k h lt) (turning reply_plain a (rw y)) (same_account p) q refl)
inv_hear x (free (rested h) (calling_single {m = sure i ir iq n} sh a y ne lt) k p q) =
    simp (sh, log_seen, answers_seen, emit_seen) (make_left _ (books_rebase k h lt) (turning reply_sure a (rw y)) (same_account p) q refl)
inv_hear x (free (rested h) (calling_multi a y ne lt) k p q) =
    make_opening' _ (books_rebase k h lt) [] up acked (rw (a, y) talk_blank) (same_account p) q refl
inv_hear x (free (rested h) (stranded_single c v ne lt) k p q) = free (rested h) (stranded_single c v ne lt) k p q
inv_hear x (free (rested h) (stranded_multi c v ne lt) k p q) = free (rested h) (stranded_multi c v ne lt) k p q
inv_hear x (free (turning {m = plain j jr jq n} reply_plain ea eb) b k p q) =
    rw eqb_refl (make_free _ k (rested (good_turned _ ea eb)) b (same_account p) q refl)
inv_hear x (free (turning {m = sure i ir iq n} reply_sure ea eb) b k p q) =
    simp (eqb_refl, log_seen, answers_seen, emit_seen) (make_free _ k (rested (good_turned_ok i ir iq n ea eb)) b (told_owes i refl p) q refl)
inv_hear x (free {d = d} {f = lf} {g = lg} (closing {q = []} last_fin f r e y) b k p q) =
    simp (eqb_refl, emit_unsure, log_unsure, answers_unsure) (make_free _ k (rested (good_granted (lf d) (lg d) f r)) b (all_answered p) q refl)
inv_hear x (free {d = d} {f = lf} {g = lg} (closing {q = []} last_ok f r e y) b k p q) =
    simp (eqb_refl, emit_unsure, log_unsure, answers_unsure) (make_free _ k (rested (good_granted (lf d) (lg d) f r)) b (all_answered p) q refl)
inv_hear x (free (closing {q = mes m z ∷ qs} l f r e y) b k p q) =
    simp (eqb_refl, log_seen, answers_seen, emit_seen) (make_free _ k (closing {q = qs} l (flow_past_msg m z f) (rest_given m z r) e y) b
    (same_account p) q refl)
inv_hear x (free (closing {q = confirm j z ∷ qs} l f r e y) b k p q) =
    let o = owed_first j z f in
    simp (eqb_refl, log_seen, answers_seen, emit_seen, without_eq j o)
    (make_free _ k (closing {q = qs} l (flow_told j z f) (rest_past_ack j z r) e y) b (told_owes j o p) q refl)
inv_hear x (free (severed a by_peer v) b k p q) =
    simp (eqb_refl, busy_true a, abort_busy 0 a, emit_unsure, log_unsure, answers_unsure)
    (make_free _ k (rested (good_severed (sever_again v))) b (all_answered p) q refl)
inv_hear x (free (severed a by_provider v) b k p q) =
    simp (eqb_refl, busy_true a, abort_busy 1 a, emit_unsure, log_unsure, answers_unsure)
    (make_free _ k (rested (good_severed (sever_again v))) b (all_answered p) q refl)
inv_hear x (free' a (resting lt) k p q) = free' a (resting lt) k p q
inv_hear x (free' a (calling_single o b y ne lt) k p q) = free' a (calling_single o b y ne lt) k p q
inv_hear x (free' a (calling_multi b y ne lt) k p q) = free' a (calling_multi b y ne lt) k p q
inv_hear x (free' a (stranded_single by_peer v ne lt) k p q) =
    simp (eqb_refl, emit_unsure, log_unsure, answers_unsure)
    (make_ahead _ a (resting lt) k (good_flip (good_severed (sever_again v))) lt ne p (all_answered q) refl)
inv_hear x (free' a (stranded_single by_provider v ne lt) k p q) =
    simp (eqb_refl, emit_unsure, log_unsure, answers_unsure)
    (make_ahead _ a (resting lt) k (good_flip (good_severed (sever_again v))) lt ne p (all_answered q) refl)
inv_hear x (free' a (stranded_multi by_peer v ne lt) k p q) =
    simp (eqb_refl, emit_unsure, log_unsure, answers_unsure)
    (make_ahead _ a (resting lt) k (good_flip (good_severed (sever_again v))) lt ne p (all_answered q) refl)
inv_hear x (free' a (stranded_multi by_provider v ne lt) k p q) =
    simp (eqb_refl, emit_unsure, log_unsure, answers_unsure)
    (make_ahead _ a (resting lt) k (good_flip (good_severed (sever_again v))) lt ne p (all_answered q) refl)
inv_hear x (opening {k = m} {qb = qb} a b v k p q) =
    rw eqb_refl (make_talking _ k ([] ++ (mes m (x (msg m)) ∷ [])) qb up a acked b (sending m (x (msg m)) v) (same_account p) q refl refl)
inv_hear x (opening' a b v k p q) = opening' a b v k p q
