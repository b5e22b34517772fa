-- A provider abort keeps the invariant. Closed by cases on the configuration, each by what purging leaves.
use mathlib.Core.Path.{refl, sym}
use mathlib.Core.Bool.{true}
use mathlib.Core.List.{List, [], ◌∷◌}
use Prim.Native.Nat.{ℕ}
use Rattle.book.specs.Book.{lost, State, Setup, waiting_of}
use Rattle.pair_laws.specs.Model.{broken, Log, log_fate, at, World, world, update, purge, busy, inside, break_near, break_both, break_end, warn}
use Rattle.pair_laws.specs.Statement.{Good}
use Rattle.pair_laws.proofs.Facts.{dats-append, eqb_refl, purge_dats, update_same}
use Rattle.pair_laws.proofs.Inv.{Owes, up, down, Busy, in_single, in_multi, in_ending, in_assoc, by_provider, near_broken, Books, Severed, rested, turning, closing, severed, resting, calling_single, calling_multi, stranded_single, stranded_multi, Inv, talking, dead, free, free', opening, opening', tail}
use Rattle.pair_laws.proofs.Close.{books_flip, severed_flip, good_severed, good_talk, good_turning, good_closing, good_flip, up_waits}
use Rattle.pair_laws.proofs.Tools.{books_far, outside_no, make_dead, make_free, make_ahead, busy_true, up_is_busy, ahead_outside, ahead_purge, ahead_back, behind_purge, purge_tail, sever_again}

sever_from_good : {a b : Log} → Good a b → Severed (log_fate (λ f. broken) a) b
unfolding log_fate
sever_from_good g = record {
  to_far = record { first = g.to_far; told = g.near_told };
  to_near = record { first = g.to_near; told = g.far_told };
  broke = near_broken;
}

-- Both ends are cut off.
make_cut : {s t : Setup} {u v : State} {d : ℕ} {f g : ℕ → Log} {acc ans acc' ans' : List ℕ} {next : ℕ} → Books f g d next →
    Busy u → Busy v → Good (f d) (g d) →
    Owes acc ans (waiting_of u) → Owes acc' ans' (waiting_of v) →
    Inv (world (at s u d true (update f d (log_fate (λ k. broken) (f d))) acc ans)
    (at t v d true (update g d (log_fate (λ k. broken) (g d))) acc' ans') ((d, lost) ∷ []) ((d, lost) ∷ []) next)
make_cut {d} {f} {g} k a b h p q =
    make_dead _ (books_far _ k) a b by_provider by_provider
    (rw (update_same g d (log_fate (λ k. broken) (g d))) (severed_flip (sever_again (severed_flip (sever_from_good h))))) p q

pub inv_break : {w : World} → Inv w → Inv (break_near w)
unfolding break_near break_both break_end warn inside busy purge tail waiting_of
inv_break (talking up b c e v k p q) =
    simp (eqb_refl, purge_dats, purge_tail, busy_true (up_is_busy b)) (make_cut k in_assoc (up_is_busy b) (good_talk v) p (rw (up_waits b) q))
inv_break (talking down b c e v k p q) =
    simp (eqb_refl, purge_dats, purge_tail, busy_true (up_is_busy b)) (make_cut k in_ending (up_is_busy b) (good_talk v) p (rw (up_waits b) q))
inv_break (dead in_single b c e v k p q) = simp (eqb_refl, busy_true b) (make_cut k in_single b (good_severed v) p q)
inv_break (dead in_multi b c e v k p q) = simp (eqb_refl, busy_true b) (make_cut k in_multi b (good_severed v) p q)
inv_break (dead in_ending b c e v k p q) = simp (eqb_refl, busy_true b) (make_cut k in_ending b (good_severed v) p q)
inv_break (dead in_assoc b c e v k p q) = simp (eqb_refl, busy_true b) (make_cut k in_assoc b (good_severed v) p q)
inv_break (free (rested h) b k p q) = free (rested h) b k p q
inv_break (free (turning {m = m} r ea eb) b k p q) =
    simp (eqb_refl, ahead_outside b, ahead_purge b, ahead_back b)
    (make_free _ k (severed in_single by_provider (sever_from_good (good_turning m ea eb))) b p q refl)
inv_break (free (closing l f r e x) b k p q) =
    simp (dats-append, eqb_refl, purge_dats, ahead_outside b, ahead_purge b, ahead_back b)
    (make_free _ k (severed in_ending by_provider (sever_from_good (good_closing f r e x))) b p q refl)
inv_break (free (severed in_single y v) b k p q) =
    simp (eqb_refl, ahead_outside b, ahead_purge b, ahead_back b)
    (make_free _ k (severed in_single by_provider (sever_again v)) b p q refl)
inv_break (free (severed in_multi y v) b k p q) =
    simp (eqb_refl, ahead_outside b, ahead_purge b, ahead_back b)
    (make_free _ k (severed in_multi by_provider (sever_again v)) b p q refl)
inv_break (free (severed in_ending y v) b k p q) =
    simp (eqb_refl, ahead_outside b, ahead_purge b, ahead_back b)
    (make_free _ k (severed in_ending by_provider (sever_again v)) b p q refl)
inv_break (free (severed in_assoc y v) b k p q) =
    simp (eqb_refl, ahead_outside b, ahead_purge b, ahead_back b)
    (make_free _ k (severed in_assoc by_provider (sever_again v)) b p q refl)
inv_break (free' a (resting lt) k p q) = free' a (resting lt) k p q
inv_break (free' {u = u} {d = d} {e = e} a (calling_single o x y ne lt) k p q) =
    let v = sever_from_good (good_flip (k.hist e ne)) in
    simp (eqb_refl, outside_no u d e (λ z. ne (sym z)), behind_purge e (λ z. ne (sym z)) a)
    (make_ahead _ a (stranded_single by_provider v ne lt) k (good_flip (good_severed v)) lt ne p q refl)
inv_break (free' {u = u} {d = d} {e = e} a (stranded_single x y ne lt) k p q) =
    let v = sever_again y in
    simp (eqb_refl, outside_no u d e (λ z. ne (sym z)), behind_purge e (λ z. ne (sym z)) a)
    (make_ahead _ a (stranded_single by_provider v ne lt) k (good_flip (good_severed v)) lt ne p q refl)
inv_break (free' {u = u} {d = d} {e = e} a (calling_multi x y ne lt) k p q) =
    let v = sever_from_good (good_flip (k.hist e ne)) in
    simp (eqb_refl, outside_no u d e (λ z. ne (sym z)), behind_purge e (λ z. ne (sym z)) a)
    (make_ahead _ a (stranded_multi by_provider v ne lt) k (good_flip (good_severed v)) lt ne p q refl)
inv_break (free' {u = u} {d = d} {e = e} a (stranded_multi x y ne lt) k p q) =
    let v = sever_again y in
    simp (eqb_refl, outside_no u d e (λ z. ne (sym z)), behind_purge e (λ z. ne (sym z)) a)
    (make_ahead _ a (stranded_multi by_provider v ne lt) k (good_flip (good_severed v)) lt ne p q refl)
inv_break (opening b c v k p q) =
    simp (eqb_refl, purge_dats, purge_tail, busy_true (up_is_busy b)) (make_cut k in_multi (up_is_busy b) (good_talk v) p (rw (up_waits b) q))
inv_break (opening' up c v k p q) =
    simp (eqb_refl, purge_dats) (make_cut (books_flip k) in_assoc in_multi (good_flip (good_talk v)) q p)
inv_break (opening' down c v k p q) =
    simp (eqb_refl, purge_dats) (make_cut (books_flip k) in_ending in_multi (good_flip (good_talk v)) q p)
