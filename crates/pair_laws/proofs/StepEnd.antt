-- G-END (03) keeps the invariant. Closed by cases on the configuration: each computes to a configuration again.
use Rattle.std.specs.Prelude.{None}
use mathlib.Core.Path.{refl, ap}
use mathlib.Core.Bool.{Bool, true, false}
use mathlib.Core.List.{List, [], ◌∷◌}
use Prim.Native.Nat.{ℕ}
use Rattle.book.specs.Book.{reply, on_end, waiting_of}
use Rattle.pair_laws.specs.Model.{Log, World, end_near, act, silent, log_all, log_out, log_sent, log_fate, emit, carry, post, answers, ask}
use Rattle.pair_laws.proofs.Facts.{Sent, dats-append}
use Rattle.pair_laws.proofs.Inv.{up, down, acked, unacked, in_single, in_multi, in_ending, in_assoc, Talk, Severed, rested, turning, closing, severed, resting, calling_single, calling_multi, stranded_single, stranded_multi, Inv, talking, dead, free, free', opening, opening', fate_of, tail}
use Rattle.pair_laws.proofs.Close.{talk_flip, books_flip}
use Rattle.pair_laws.proofs.Tools.{make_talking, make_dead, make_free, make_opening', same_account, ask_broken}

pub asking : {a b : Log} {wa wb : List ℕ} {eb : Bool} {qa qb : List Sent} {una unb : List ℕ} →
    Talk a b wa wb false eb qa qb una unb → Talk (log_fate ask a) b wa wb true eb qa qb una unb
unfolding log_fate fate_of ask
asking v = record { to_far = v.to_far; to_near = v.to_near; near_fate = rw v.near_fate; far_fate = v.far_fate }

pub asking_severed : {a b : Log} → Severed a b → Severed (log_fate ask a) b
unfolding log_fate
asking_severed v = record { to_far = v.to_far; to_near = v.to_near; broke = ask_broken v.broke }

pub inv_end : {w : World} → Inv w → Inv (end_near w)
unfolding end_near on_end act silent log_all log_out log_sent log_fate emit carry post answers waiting_of tail
inv_end (talking {d = d} {qa = qa} {qb = qb} up b acked e v k p q) =
    make_talking _ k qa qb down b unacked e (asking v) (same_account p) q (dats-append d qa [] _) refl
inv_end (talking down b c e v k p q) = talking down b c e v k p q
inv_end (dead in_single b c e v k p q) = dead in_single b c e v k p q
inv_end (dead in_multi b c e v k p q) = dead in_multi b c e v k p q
inv_end (dead in_ending b c e v k p q) = dead in_ending b c e v k p q
inv_end (dead in_assoc b c e v k p q) = make_dead _ k in_ending b c e (asking_severed v) (same_account p) q
inv_end (free (rested g) b k p q) = free (rested g) b k p q
inv_end (free (turning r ea eb) b k p q) = free (turning r ea eb) b k p q
inv_end (free (closing l f r e x) b k p q) = free (closing l f r e x) b k p q
inv_end (free (severed in_single c v) b k p q) = free (severed in_single c v) b k p q
inv_end (free (severed in_multi c v) b k p q) = free (severed in_multi c v) b k p q
inv_end (free (severed in_ending c v) b k p q) = free (severed in_ending c v) b k p q
inv_end (free (severed in_assoc c v) b k p q) = make_free _ k (severed in_ending c (asking_severed v)) b (same_account p) q refl
inv_end (free' a (resting lt) k p q) = free' a (resting lt) k p q
inv_end (free' a (calling_single o x y ne lt) k p q) = free' a (calling_single o x y ne lt) k p q
inv_end (free' a (calling_multi x y ne lt) k p q) = free' a (calling_multi x y ne lt) k p q
inv_end (free' a (stranded_single c v ne lt) k p q) = free' a (stranded_single c v ne lt) k p q
inv_end (free' a (stranded_multi c v ne lt) k p q) = free' a (stranded_multi c v ne lt) k p q
inv_end (opening a b v k p q) = opening a b v k p q
inv_end (opening' {d = d} {qb = qb} up b v k p q) =
    make_opening' _ (books_flip k) qb down unacked (talk_flip (asking (talk_flip v))) (same_account q) p
    (ap (λ z. (d, reply true None) ∷ z) (dats-append d qb [] _))
inv_end (opening' down b v k p q) = opening' down b v k p q
