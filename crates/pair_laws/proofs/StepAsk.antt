-- A request (01, 02) keeps the invariant, whatever refusal it meets. Closed by cases on the configuration: in Idle it begins a dialogue, in
-- Associated it adds a message to the flow, and otherwise it is refused.
use Rattle.std.specs.Prelude.{None, Option, Some}
use mathlib.Core.Path.{◌≡◌, refl, ◌∙◌, ap}
use mathlib.Core.Bool.{Bool, true, false}
use mathlib.Core.List.{List, [], ◌∷◌, ◌++◌, append-nil, append_assoc}
use Prim.Native.Nat.{ℕ, suc, ◌<◌}
use native.Mathlib.Omega.{arith}
use native.Mathlib.Nat.{le_refl}
use Rattle.book.specs.declared.Refusal.{Refusal}
use Rattle.book.specs.Book.{good, body_of, settled, Msg, msg, start, reply, State, single, multi, Setup, Outcome, ids_of, waiting_of, on_single, on_multi}
use Rattle.book.specs.declared.Terms.{Terms}
use Rattle.pair_laws.specs.Model.{Fields, Log, blank, log_handed, log_sent, log_out, log_all, answers, Queue, at, World, world, update, busy, post, carry, emit, act, silent, fresh, is_start, start_comes, ask_with, act_there, extended, with_fields, log_read}
use Rattle.pair_laws.specs.Statement.{Good, ids}
use Rattle.pair_laws.proofs.Facts.{Sent, mes, wire, dats_post}
use Rattle.pair_laws.proofs.Flow.{past_more, flow_more, flow_add_msg}
use Rattle.pair_laws.proofs.Inv.{Owes, up, down, in_single, in_multi, in_ending, in_assoc, Books, Talk, Severed, called_log, Behind, rested, turning, closing, severed, resting, calling_single, calling_multi, stranded_single, stranded_multi, Inv, talking, dead, free, free', opening, opening', tail}
use Rattle.pair_laws.proofs.Close.{talk_flip, books_flip, good_flip, good_all, good_blank, not_going}
use Rattle.pair_laws.proofs.Tools.{make_talking, make_dead, make_free, make_opening', make_ahead}

pub sending : {a b : Log} {wa wb : List ℕ} {ea eb : Bool} {qa qb : List Sent} {una unb : List ℕ} (m : Msg) (x : ℕ) →
    Talk a b wa wb ea eb qa qb una unb → Talk (log_handed (msg m) a) b (wa ++ ids_of m) wb ea eb (qa ++ (mes m x ∷ [])) qb una unb
unfolding log_handed
sending m x v = record {
  to_far = flow_more m x v.to_far;
  to_near = flow_add_msg m x v.to_near;
  near_fate = v.near_fate;
  far_fate = v.far_fate;
}

sending_severed : {a b : Log} (m : Msg) (x : ℕ) → Severed a b → Severed (log_handed (msg m) a) b
unfolding log_handed
sending_severed m x v = record { to_far = past_more m v.to_far; to_near = v.to_near; broke = v.broke }

more_owed : {acc ans w : List ℕ} (m : Msg) → Owes acc ans w → Owes (acc ++ ids_of m) (ans ++ []) (w ++ ids_of m)
more_owed {acc} {ans} {w} m p = record { sum = ap (λ z. z ++ ids_of m) p.sum ∙ simp (append-nil, append_assoc) }

first_owed : {acc ans : List ℕ} (m : Msg) → Owes acc ans [] → Owes (acc ++ ids_of m) (ans ++ []) (ids_of m)
first_owed {acc} {ans} m p = record { sum = ap (λ z. z ++ ids_of m) p.sum }

-- Another dialogue takes the place of d.
pub books_rebase : {f g : ℕ → Log} {d e next : ℕ} → Books f g d next → Good (f d) (g d) → e < next → Books f g e next
books_rebase k h lt = record { hist = λ n ne. good_all k h n; new = k.new; below = lt }

books_up : {f g : ℕ → Log} {d next : ℕ} → Books f g d next → Books f g d (suc next)
books_up {next} k = record { hist = k.hist; new = λ n ge. k.new n (omega arith); below = omega (arith, k.below) }

good_called : (m : Msg) → Good blank (called_log m)
unfolding blank called_log ids
good_called m = record {
  to_far = ([], refl);
  to_near = (m ∷ [], refl);
  near_told = ([], refl);
  far_told = ([], refl);
  whole = λ o. absurd (not_going o);
}

after_nil : (cl st : Queue) → (cl ++ []) ++ st ≡ cl ++ st
after_nil cl st = ap (λ z. z ++ st) (append-nil cl)

-- The near end, in Idle, calls.
begin_single : {s t : Setup} {u : State} {d : ℕ} {h : Bool} {f g : ℕ → Log} {acc ans acc' ans' : List ℕ} {next : ℕ} {cl out : Queue} (o : Terms)
    (m : Msg) (x : ℕ) → (body_of m).maintained ≡ false →
    Behind d (f d) (g d) u h cl → Books f g d next → Owes acc ans (waiting_of u) → Owes acc' ans' [] →
    out ≡ cl ++ ((next, start o (Some (good (msg m) x))) ∷ []) →
    Inv (world (at t (single o (ids_of m) 0) next false (update g next (log_handed (msg m) (g next))) (acc' ++ ids_of m) (ans' ++ []))
    (at s u d h f acc ans) out [] (suc next))
unfolding waiting_of log_handed blank called_log
begin_single {f} {g} {next} o m x sh a k p q eo =
    let n = k.new next (le_refl next) in
    make_ahead _ a (calling_single sh (rw n.1) n.0 (λ z. omega (arith, k.below)) (omega arith)) (books_up k)
    (rw (n.0, n.1) (good_called m)) (omega arith) (λ z. omega (arith, k.below)) p (first_owed m q) eo

begin_multi : {s t : Setup} {u : State} {d : ℕ} {h : Bool} {f g : ℕ → Log} {acc ans acc' ans' : List ℕ} {next : ℕ} {cl out : Queue} (o : Terms)
    (m : Msg) →
    Behind d (f d) (g d) u h cl → Books f g d next → Owes acc ans (waiting_of u) → Owes acc' ans' [] →
    out ≡ cl ++ ((next, start o None) ∷ []) →
    Inv (world (at t (multi o m 0) next false (update g next (g next)) (acc' ++ ids_of m) (ans' ++ [])) (at s u d h f acc ans) out [] (suc next))
unfolding waiting_of
begin_multi {f} {g} {next} o m a k p q eo =
    let n = k.new next (le_refl next) in
    make_ahead _ a (calling_multi n.1 n.0 (λ z. omega (arith, k.below)) (omega arith)) (books_up k) (rw (n.0, n.1) good_blank)
    (omega arith) (λ z. omega (arith, k.below)) p (first_owed m q) eo

-- what a request does, by whether it is maintained and by the refusal that it meets in Associated, if any
unfoldable pub shot : (bar : Option Refusal) (maintained : Bool) → Terms → Msg → State → Outcome
shot c false a m st = on_single a m st
shot c true a m st = on_multi c a m st

unfoldable pub ask_at : (bar : Option Refusal) (maintained : Bool) (x : Fields) → Terms → Msg → World → World
ask_at c k x a m (world (at s u d h f acc ans) b out inn next) =
    ask_with x (ids_of m) (busy u) (start_comes inn) (shot c k a m u) (world (at s u d h f acc ans) b out inn next)

pub inv_ask : (c : Option Refusal) (k : Bool) (x : Fields) (a : Terms) (m : Msg) → (body_of m).maintained ≡ k → {w : World} → Inv w → Inv (ask_at c k x a m w)
unfolding ask_at shot ask_with act_there busy extended with_fields on_single on_multi fresh start_comes is_start act silent log_all log_out log_sent emit carry post answers waiting_of tail log_read wire
inv_ask c false x o m sh (talking up b f e v k p q) = talking up b f e v k p q
inv_ask (Some n) true x o m sh (talking up b f e v k p q) = talking up b f e v k p q
inv_ask None true x o m sh (talking {d = d} {qa = qa} {qb = qb} up b f e v k p q) =
    make_talking _ k (qa ++ (mes m (x (msg m)) ∷ [])) qb up b f e (sending m (x (msg m)) v) (more_owed m p) q (dats_post d qa _) refl
inv_ask c false x o m sh (talking down b f e v k p q) = talking down b f e v k p q
inv_ask c true x o m sh (talking down b f e v k p q) = talking down b f e v k p q
inv_ask c false x o m sh (dead in_single b f e v k p q) = dead in_single b f e v k p q
inv_ask c true x o m sh (dead in_single b f e v k p q) = dead in_single b f e v k p q
inv_ask c false x o m sh (dead in_multi b f e v k p q) = dead in_multi b f e v k p q
inv_ask c true x o m sh (dead in_multi b f e v k p q) = dead in_multi b f e v k p q
inv_ask c false x o m sh (dead in_ending b f e v k p q) = dead in_ending b f e v k p q
inv_ask c true x o m sh (dead in_ending b f e v k p q) = dead in_ending b f e v k p q
inv_ask c false x o m sh (dead in_assoc b f e v k p q) = dead in_assoc b f e v k p q
inv_ask (Some n) true x o m sh (dead in_assoc b f e v k p q) = dead in_assoc b f e v k p q
inv_ask None true x o m sh (dead in_assoc b f e v k p q) = make_dead _ k in_assoc b f e (sending_severed m (x (msg m)) v) (more_owed m p) q
inv_ask c false x o m sh (free {e = e} {g = g} (rested h) (resting lt) k p q) =
    begin_single (settled o) m (x (msg m)) sh (rested (good_flip (good_all k h e))) (books_rebase (books_flip k) (good_flip h) lt) q p refl
inv_ask c true x o m sh (free {e = e} (rested h) (resting lt) k p q) =
    begin_multi (settled o) m (rested (good_flip (good_all k h e))) (books_rebase (books_flip k) (good_flip h) lt) q p refl
inv_ask c false x o m sh (free (rested h) (calling_single z a y ne lt) k p q) = free (rested h) (calling_single z a y ne lt) k p q
inv_ask c true x o m sh (free (rested h) (calling_single z a y ne lt) k p q) = free (rested h) (calling_single z a y ne lt) k p q
inv_ask c false x o m sh (free (rested h) (calling_multi a y ne lt) k p q) = free (rested h) (calling_multi a y ne lt) k p q
inv_ask c true x o m sh (free (rested h) (calling_multi a y ne lt) k p q) = free (rested h) (calling_multi a y ne lt) k p q
inv_ask c false x o m sh (free (rested h) (stranded_single a v ne lt) k p q) =
    begin_single (settled o) m (x (msg m)) sh (severed in_single a v) (books_rebase (books_flip k) (good_flip h) lt) q p refl
inv_ask c true x o m sh (free (rested h) (stranded_single a v ne lt) k p q) =
    begin_multi (settled o) m (severed in_single a v) (books_rebase (books_flip k) (good_flip h) lt) q p refl
inv_ask c false x o m sh (free (rested h) (stranded_multi a v ne lt) k p q) =
    begin_single (settled o) m (x (msg m)) sh (severed in_multi a v) (books_rebase (books_flip k) (good_flip h) lt) q p refl
inv_ask c true x o m sh (free (rested h) (stranded_multi a v ne lt) k p q) =
    begin_multi (settled o) m (severed in_multi a v) (books_rebase (books_flip k) (good_flip h) lt) q p refl
inv_ask c false x o m sh (free (turning r a y) b k p q) = free (turning r a y) b k p q
inv_ask c true x o m sh (free (turning r a y) b k p q) = free (turning r a y) b k p q
inv_ask c false x o m sh (free (closing r a y z t) b k p q) = free (closing r a y z t) b k p q
inv_ask c true x o m sh (free (closing r a y z t) b k p q) = free (closing r a y z t) b k p q
inv_ask c false x o m sh (free (severed in_single y v) b k p q) = free (severed in_single y v) b k p q
inv_ask c true x o m sh (free (severed in_single y v) b k p q) = free (severed in_single y v) b k p q
inv_ask c false x o m sh (free (severed in_multi y v) b k p q) = free (severed in_multi y v) b k p q
inv_ask c true x o m sh (free (severed in_multi y v) b k p q) = free (severed in_multi y v) b k p q
inv_ask c false x o m sh (free (severed in_ending y v) b k p q) = free (severed in_ending y v) b k p q
inv_ask c true x o m sh (free (severed in_ending y v) b k p q) = free (severed in_ending y v) b k p q
inv_ask c false x o m sh (free (severed in_assoc y v) b k p q) = free (severed in_assoc y v) b k p q
inv_ask (Some n) true x o m sh (free (severed in_assoc y v) b k p q) = free (severed in_assoc y v) b k p q
inv_ask None true x o m sh (free (severed in_assoc y v) b k p q) = make_free _ k (severed in_assoc y (sending_severed m (x (msg m)) v)) b (more_owed m p) q refl
inv_ask c false x o m sh (free' {cl = cl} a (resting lt) k p q) = begin_single (settled o) m (x (msg m)) sh a k p q (after_nil cl _)
inv_ask c true x o m sh (free' {cl = cl} a (resting lt) k p q) = begin_multi (settled o) m a k p q (after_nil cl _)
inv_ask c false x o m sh (free' a (calling_single z b y ne lt) k p q) = free' a (calling_single z b y ne lt) k p q
inv_ask c true x o m sh (free' a (calling_single z b y ne lt) k p q) = free' a (calling_single z b y ne lt) k p q
inv_ask c false x o m sh (free' a (calling_multi b y ne lt) k p q) = free' a (calling_multi b y ne lt) k p q
inv_ask c true x o m sh (free' a (calling_multi b y ne lt) k p q) = free' a (calling_multi b y ne lt) k p q
inv_ask c false x o m sh (free' a (stranded_single b y ne lt) k p q) = free' a (stranded_single b y ne lt) k p q
inv_ask c true x o m sh (free' a (stranded_single b y ne lt) k p q) = free' a (stranded_single b y ne lt) k p q
inv_ask c false x o m sh (free' a (stranded_multi b y ne lt) k p q) = free' a (stranded_multi b y ne lt) k p q
inv_ask c true x o m sh (free' a (stranded_multi b y ne lt) k p q) = free' a (stranded_multi b y ne lt) k p q
inv_ask c false x o m sh (opening a b v k p q) = opening a b v k p q
inv_ask c true x o m sh (opening a b v k p q) = opening a b v k p q
inv_ask c false x o m sh (opening' up b v k p q) = opening' up b v k p q
inv_ask (Some n) true x o m sh (opening' up b v k p q) = opening' up b v k p q
inv_ask None true x o m sh (opening' {d = d} {qb = qb} up b v k p q) =
    make_opening' _ (books_flip k) (qb ++ (mes m (x (msg m)) ∷ [])) up b (talk_flip (sending m (x (msg m)) (talk_flip v))) (more_owed m q) p
    (ap (λ z. (d, reply true None) ∷ z) (dats_post d qb _))
inv_ask c false x o m sh (opening' down b v k p q) = opening' down b v k p q
inv_ask c true x o m sh (opening' down b v k p q) = opening' down b v k p q
