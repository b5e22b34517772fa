-- Small facts of the model: which log and which lines a step touches, data lines on the way, output lines that touch neither log nor link. Closed by
-- induction on lists, and by the test of two equal numbers.
use Rattle.std.specs.Prelude.{None, Some}
use mathlib.Core.Path.{◌≡◌, refl, sym, ◌∙◌, ap}
use mathlib.Core.Bool.{Bool, true, false}
use mathlib.Core.List.{List, [], ◌∷◌, ◌++◌, append_assoc}
use Prim.Native.Nat.{ℕ, zero, suc}
use borrow.Author.Tests.{eq-eqb, eqb-true}
use lib.Dec.{eqb}
use Rattle.book.specs.Book.{Body, ok, Reading, good, Setup, with_seen, Msg, msg, note, Line, dat, Out, ids_of, without, without_in, unsure}
use Rattle.pair_laws.specs.Model.{Fields, Log, update, purge, Queue, log_all, log_out, answers, emit, World}
use Rattle.pair_laws.specs.Statement.{ids}

pub eqb_refl : (n : ℕ) → eqb n n ≡ true
eqb_refl n = eq-eqb n n refl

pub eqb_no : (m n : ℕ) → (m ≡ n → ⊥) → eqb m n ≡ false
eqb_no m n h = go (eqb m n) refl
  where
    go : (b : Bool) → eqb m n ≡ b → eqb m n ≡ false
    go true e = absurd (h (eqb-true m n e))
    go false e = e

pub update_same : (f : ℕ → Log) (d : ℕ) (l : Log) → update f d l d ≡ l
unfolding update
update_same f d l = rw (eqb_refl d)

pub update_other : (f : ℕ → Log) (d : ℕ) (l : Log) (n : ℕ) → (n ≡ d → ⊥) → update f d l n ≡ f n
unfolding update
update_other f d l n h = rw (eqb_no n d h)

pub without_first : (r : ℕ) (w : List ℕ) → without r (r ∷ w) ≡ Some w
unfolding without without_in
without_first r w = rw (eqb_refl r)

-- What a unit writes in the data phase: a message, or an acknowledgement (confirmedOk); and the number of its extension fields.
pub data Sent : Type 0 where
  mes : Msg → (fields : ℕ) → Sent
  confirm : (ref : ℕ) (sender-body-fields : List ℕ × Body × ℕ) → Sent

unfoldable pub wire : Sent → Reading
wire (mes m x) = good (msg m) x
wire (confirm r x) = good (note ok r None x.0 x.1) x.2

-- The queue of a dialogue's data lines, and what follows.
unfoldable pub dats : ℕ → List Sent → Queue → Queue
dats d [] rest = rest
dats d (f ∷ fs) rest = (d, dat (wire f)) ∷ dats d fs rest

pub dats-append : (d : ℕ) (fs : List Sent) (r s : Queue) → dats d fs r ++ s ≡ dats d fs (r ++ s)
unfolding dats
dats-append d [] r s = refl
dats-append d (f ∷ fs) r s = ap (λ q. (d, dat (wire f)) ∷ q) (dats-append d fs r s)

pub dats_snoc : (d : ℕ) (fs : List Sent) (f : Sent) (r : Queue) → dats d (fs ++ (f ∷ [])) r ≡ dats d fs ((d, dat (wire f)) ∷ r)
unfolding dats
dats_snoc d [] f r = refl
dats_snoc d (g ∷ fs) f r = ap (λ q. (d, dat (wire g)) ∷ q) (dats_snoc d fs f r)

-- A message sent after some others.
pub dats_post : (d : ℕ) (fs : List Sent) (f : Sent) → dats d fs [] ++ ((d, dat (wire f)) ∷ []) ≡ dats d (fs ++ (f ∷ [])) []
dats_post d fs f = dats-append d fs [] _ ∙ sym (dats_snoc d fs f [])

pub purge_own : (d : ℕ) (l : Line) (q : Queue) → purge d ((d, l) ∷ q) ≡ purge d q
unfolding purge
purge_own d l q = rw (eqb_refl d)

pub purge_other : (d n : ℕ) (l : Line) (q : Queue) → (n ≡ d → ⊥) → purge d ((n, l) ∷ q) ≡ (n, l) ∷ purge d q
unfolding purge
purge_other d n l q h = rw (eqb_no n d h)

pub purge_dats : (d : ℕ) (fs : List Sent) (q : Queue) → purge d (dats d fs q) ≡ purge d q
unfolding dats
purge_dats d [] q = refl
purge_dats d (f ∷ fs) q = purge_own d (dat (wire f)) (dats d fs q) ∙ purge_dats d fs q

-- What the answers `uncertain` do: nothing to a log or the link.
pub log_unsure : (s : Setup) (k : Bool) (w : List ℕ) (os : List Out) (l : Log) → log_all (unsure s k w os) l ≡ log_all os l
unfolding log_all log_out unsure
log_unsure s k [] os l = refl
log_unsure s k (i ∷ w) os l = log_unsure s k w os l

pub answers_unsure : (s : Setup) (k : Bool) (w : List ℕ) (os : List Out) → answers (unsure s k w os) ≡ w ++ answers os
unfolding answers unsure
answers_unsure s k [] os = refl
answers_unsure s k (i ∷ w) os = ap (λ v. i ∷ v) (answers_unsure s k w os)

pub emit_unsure : (x : Fields) (d : ℕ) (s : Setup) (k : Bool) (w : List ℕ) (os : List Out) (v : World) → emit x d (unsure s k w os) v ≡ emit x d os v
unfolding emit unsure
emit_unsure x d s k [] os v = refl
emit_unsure x d s k (i ∷ w) os v = emit_unsure x d s k w os v

-- What line 25 does: nothing too.
pub log_seen : (e : ℕ) (os : List Out) (l : Log) → log_all (with_seen e os) l ≡ log_all os l
unfolding log_all log_out with_seen
log_seen zero os l = refl
log_seen (suc n) os l = refl

pub answers_seen : (e : ℕ) (os : List Out) → answers (with_seen e os) ≡ answers os
unfolding answers with_seen
answers_seen zero os = refl
answers_seen (suc n) os = refl

pub emit_seen : (x : Fields) (d e : ℕ) (os : List Out) (v : World) → emit x d (with_seen e os) v ≡ emit x d os v
unfolding emit with_seen
emit_seen x d zero os v = refl
emit_seen x d (suc n) os v = refl

-- Messages and acknowledgements among frames.
unfoldable pub msgs : List Sent → List Msg
msgs [] = []
msgs (mes m x ∷ fs) = m ∷ msgs fs
msgs (confirm r x ∷ fs) = msgs fs

unfoldable pub acks : List Sent → List ℕ
acks [] = []
acks (mes m x ∷ fs) = acks fs
acks (confirm r x ∷ fs) = r ∷ acks fs

pub msgs-append : (fs gs : List Sent) → msgs (fs ++ gs) ≡ msgs fs ++ msgs gs
unfolding msgs
msgs-append [] gs = refl
msgs-append (mes m x ∷ fs) gs = ap (λ v. m ∷ v) (msgs-append fs gs)
msgs-append (confirm r x ∷ fs) gs = msgs-append fs gs

pub acks-append : (fs gs : List Sent) → acks (fs ++ gs) ≡ acks fs ++ acks gs
unfolding acks
acks-append [] gs = refl
acks-append (mes m x ∷ fs) gs = acks-append fs gs
acks-append (confirm r x ∷ fs) gs = ap (λ v. r ∷ v) (acks-append fs gs)

pub ids-append : (ms ns : List Msg) → ids (ms ++ ns) ≡ ids ms ++ ids ns
unfolding ids
ids-append [] ns = refl
ids-append (m ∷ ms) ns = ap (λ v. ids_of m ++ v) (ids-append ms ns) ∙ sym (append_assoc (ids_of m) (ids ms) (ids ns))
