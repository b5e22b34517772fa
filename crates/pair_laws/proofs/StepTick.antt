-- A tick (04) keeps the invariant, whether or not it reaches the limit. Closed by cases on the configuration; a fall by what purging leaves.
use Rattle.std.specs.Prelude.{None}
use mathlib.Core.Path.{refl, sym, ap}
use mathlib.Core.Bool.{Bool, true, false}
use mathlib.Core.List.{[], ◌∷◌}
use Rattle.book.specs.Book.{reply, on_tick, fall, waiting_of}
use Rattle.pair_laws.specs.Model.{no_fields, at, World, world, act, silent, log_all, log_out, log_sent, emit, carry, post, sever, far_inside, inside, hang, busy, answers, purge}
use Rattle.pair_laws.proofs.Facts.{dats-append, emit_unsure, log_unsure, answers_unsure, eqb_refl, purge_dats}
use Rattle.pair_laws.proofs.Inv.{up, down, acked, unacked, in_single, in_multi, in_ending, in_assoc, by_peer, rested, turning, closing, severed, resting, calling_single, calling_multi, stranded_single, stranded_multi, Inv, talking, dead, free, free', opening, opening', tail}
use Rattle.pair_laws.proofs.Close.{talk_flip, books_flip, severed_flip, good_severed, good_turning, good_closing, good_flip, up_waits}
use Rattle.pair_laws.proofs.Tools.{update_id, outside_no, make_talking, make_dead, make_free, make_left, make_opening', make_ahead, same_account, all_answered, busy_true, up_is_busy, ahead_outside, ahead_purge, ahead_back, behind_purge, purge_tail, sever_talk, sever_again, sever_good}
use Rattle.pair_laws.proofs.StepEnd.{asking, asking_severed}

-- a tick that reaches the limit, or doesn't
unfoldable pub tick_at : (late : Bool) → World → World
tick_at c (world (at s u d h f acc ans) b out inn next) = act no_fields [] silent (on_tick s c u) (world (at s u d h f acc ans) b out inn next)

pub inv_tick : (c : Bool) {w : World} → Inv w → Inv (tick_at c w)
unfolding tick_at on_tick fall act silent log_all log_out log_sent emit carry post sever far_inside inside hang busy answers waiting_of tail purge
inv_tick true (talking {d = d} {qa = qa} {qb = qb} up b acked e v k p q) =
    make_talking _ k qa qb down b unacked e (asking v) (same_account p) q (dats-append d qa [] _) refl
inv_tick false (talking {qa = qa} {qb = qb} up b c e v k p q) = make_talking _ k qa qb up b c e v (same_account p) q refl refl
inv_tick true (talking down b c e v k p q) =
    simp (emit_unsure, log_unsure, answers_unsure, eqb_refl, purge_dats, purge_tail, busy_true (up_is_busy b))
    (make_left _ k (severed (up_is_busy b) by_peer (severed_flip (sever_talk v))) (all_answered p) (rw (up_waits b) q) refl)
inv_tick false (talking {qa = qa} {qb = qb} down b c e v k p q) = make_talking _ k qa qb down b c e v (same_account p) q refl refl
inv_tick true (dead in_single b c e v k p q) =
    simp (emit_unsure, log_unsure, answers_unsure, eqb_refl, busy_true b)
    (make_left _ k (severed b by_peer (severed_flip (sever_again v))) (all_answered p) q refl)
inv_tick false (dead in_single b c e v k p q) = make_dead _ k in_single b c e v (same_account p) q
inv_tick true (dead in_multi b c e v k p q) =
    simp (emit_unsure, log_unsure, answers_unsure, eqb_refl, busy_true b)
    (make_left _ k (severed b by_peer (severed_flip (sever_again v))) (all_answered p) q refl)
inv_tick false (dead in_multi b c e v k p q) = make_dead _ k in_multi b c e v (same_account p) q
inv_tick true (dead in_ending b c e v k p q) =
    simp (emit_unsure, log_unsure, answers_unsure, eqb_refl, busy_true b)
    (make_left _ k (severed b by_peer (severed_flip (sever_again v))) (all_answered p) q refl)
inv_tick false (dead in_ending b c e v k p q) = make_dead _ k in_ending b c e v (same_account p) q
inv_tick true (dead in_assoc b c e v k p q) = make_dead _ k in_ending b c e (asking_severed v) (same_account p) q
inv_tick false (dead in_assoc b c e v k p q) = make_dead _ k in_assoc b c e v (same_account p) q
inv_tick true (free (rested g) b k p q) = make_free _ k (rested g) b (same_account p) q refl
inv_tick false (free (rested g) b k p q) = make_free _ k (rested g) b (same_account p) q refl
inv_tick true (free (turning {m = m} r ea eb) b k p q) =
    simp (emit_unsure, log_unsure, answers_unsure, eqb_refl, ahead_outside b, ahead_purge b, ahead_back b)
    (make_free _ k (rested (sever_good (good_turning m ea eb))) b (all_answered p) q refl)
inv_tick false (free (turning r ea eb) b k p q) = make_free _ k (turning r ea eb) b (same_account p) q refl
inv_tick true (free (closing {q = qs} l f r e x) b k p q) =
    simp (dats-append, emit_unsure, log_unsure, answers_unsure, eqb_refl, purge_dats, ahead_outside b, ahead_purge b, ahead_back b)
    (make_free _ k (rested (sever_good (good_closing f r e x))) b (all_answered p) q refl)
inv_tick false (free (closing l f r e x) b k p q) = make_free _ k (closing l f r e x) b (same_account p) q refl
inv_tick true (free (severed in_single y v) b k p q) =
    simp (emit_unsure, log_unsure, answers_unsure, eqb_refl, ahead_outside b, ahead_purge b, ahead_back b)
    (make_free _ k (rested (good_severed (sever_again v))) b (all_answered p) q refl)
inv_tick false (free (severed in_single y v) b k p q) = make_free _ k (severed in_single y v) b (same_account p) q refl
inv_tick true (free (severed in_multi y v) b k p q) =
    simp (emit_unsure, log_unsure, answers_unsure, eqb_refl, ahead_outside b, ahead_purge b, ahead_back b)
    (make_free _ k (rested (good_severed (sever_again v))) b (all_answered p) q refl)
inv_tick false (free (severed in_multi y v) b k p q) = make_free _ k (severed in_multi y v) b (same_account p) q refl
inv_tick true (free (severed in_ending y v) b k p q) =
    simp (emit_unsure, log_unsure, answers_unsure, eqb_refl, ahead_outside b, ahead_purge b, ahead_back b)
    (make_free _ k (rested (good_severed (sever_again v))) b (all_answered p) q refl)
inv_tick false (free (severed in_ending y v) b k p q) = make_free _ k (severed in_ending y v) b (same_account p) q refl
inv_tick true (free (severed in_assoc y v) b k p q) = make_free _ k (severed in_ending y (asking_severed v)) b (same_account p) q refl
inv_tick false (free (severed in_assoc y v) b k p q) = make_free _ k (severed in_assoc y v) b (same_account p) q refl
inv_tick true (free' {e = e} {g = g} a (resting lt) k p q) = rw (update_id g e) (free' a (resting lt) k p (same_account q))
inv_tick false (free' {e = e} {g = g} a (resting lt) k p q) = rw (update_id g e) (free' a (resting lt) k p (same_account q))
inv_tick true (free' {u = u} {d = d} {e = e} a (calling_single o x y ne lt) k p q) =
    simp (emit_unsure, log_unsure, answers_unsure, eqb_refl, outside_no u d e (λ z. ne (sym z)), behind_purge e (λ z. ne (sym z)) a)
    (make_ahead _ a (resting lt) k (good_flip (sever_good (good_flip (k.hist e ne)))) lt ne p (all_answered q) refl)
inv_tick false (free' {e = e} {g = g} a (calling_single o x y ne lt) k p q) =
    rw (update_id g e) (free' a (calling_single o x y ne lt) k p (same_account q))
inv_tick true (free' {u = u} {d = d} {e = e} a (calling_multi x y ne lt) k p q) =
    simp (emit_unsure, log_unsure, answers_unsure, eqb_refl, outside_no u d e (λ z. ne (sym z)), behind_purge e (λ z. ne (sym z)) a)
    (make_ahead _ a (resting lt) k (good_flip (sever_good (good_flip (k.hist e ne)))) lt ne p (all_answered q) refl)
inv_tick false (free' {e = e} {g = g} a (calling_multi x y ne lt) k p q) = rw (update_id g e) (free' a (calling_multi x y ne lt) k p (same_account q))
inv_tick true (free' {u = u} {d = d} {e = e} a (stranded_single x v ne lt) k p q) =
    simp (emit_unsure, log_unsure, answers_unsure, eqb_refl, outside_no u d e (λ z. ne (sym z)), behind_purge e (λ z. ne (sym z)) a)
    (make_ahead _ a (resting lt) k (good_flip (sever_good (good_severed v))) lt ne p (all_answered q) refl)
inv_tick false (free' {e = e} {g = g} a (stranded_single x v ne lt) k p q) =
    rw (update_id g e) (free' a (stranded_single x v ne lt) k p (same_account q))
inv_tick true (free' {u = u} {d = d} {e = e} a (stranded_multi x v ne lt) k p q) =
    simp (emit_unsure, log_unsure, answers_unsure, eqb_refl, outside_no u d e (λ z. ne (sym z)), behind_purge e (λ z. ne (sym z)) a)
    (make_ahead _ a (resting lt) k (good_flip (sever_good (good_severed v))) lt ne p (all_answered q) refl)
inv_tick false (free' {e = e} {g = g} a (stranded_multi x v ne lt) k p q) =
    rw (update_id g e) (free' a (stranded_multi x v ne lt) k p (same_account q))
inv_tick true (opening a b v k p q) =
    simp (emit_unsure, log_unsure, answers_unsure, eqb_refl, purge_dats, purge_tail, busy_true (up_is_busy a))
    (make_left _ k (severed (up_is_busy a) by_peer (severed_flip (sever_talk v))) (all_answered p) (rw (up_waits a) q) refl)
inv_tick false (opening {d = d} {f = f} a b v k p q) = rw (update_id f d) (opening a b v k (same_account p) q)
inv_tick true (opening' {d = d} {qb = qb} up b v k p q) =
    make_opening' _ (books_flip k) qb down unacked (talk_flip (asking (talk_flip v))) (same_account q) p
    (ap (λ z. (d, reply true None) ∷ z) (dats-append d qb [] _))
inv_tick false (opening' {qb = qb} up b v k p q) = make_opening' _ (books_flip k) qb up b v (same_account q) p refl
inv_tick true (opening' down b v k p q) =
    simp (emit_unsure, log_unsure, answers_unsure, eqb_refl, purge_dats)
    (make_left _ (books_flip k) (severed in_multi by_peer (severed_flip (sever_talk (talk_flip v)))) (all_answered q) p refl)
inv_tick false (opening' {qb = qb} down b v k p q) = make_opening' _ (books_flip k) qb down b v (same_account q) p refl
