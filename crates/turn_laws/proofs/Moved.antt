-- What the moves make of the picture of a state. Closed by cases on the state.
use Prim.Native.Nat.{ℕ, zero, suc, ◌+◌, ◌-◌, ◌<◌, ◌≤◌}
use mathlib.Core.Path.{◌≡◌}
use mathlib.Core.Bool.{true, false}
use mathlib.Core.List.{List, [], ◌∷◌, ◌++◌, append_assoc}
use native.Mathlib.Omega.{arith}
use native.Mathlib.Nat.{sub-zero, zero-add, not-suc-le-zero}
use lib.ListN.{length, take, drop, set, replicate, length-append, length-drop, length-replicate, replicate-append-replicate}
use lib.Seq.{take-append_seam, take-append-le, drop-append-le, length-take-le, set-append_seam, sets, sets-eq}
use borrow.Author.Tests.{lt-ltb}
use Rattle.book.specs.Book.{Msg, State, idle, single, multi, ending, assoc, Setup, ids_of, waiting_of}
use Rattle.book.specs.Picture.{padded, picture, ids_in}
use Rattle.book.specs.Waiting.{closed}
use Rattle.book.specs.View.{msg_octets}
use Rattle.book.specs.declared.Terms.{Terms}
use Rattle.book.specs.declared.Unit.{Unit as Value}
use Rattle.turn_laws.specs.Moves.{advanced, rested, entered, cleared, keeping, waiting_with, appended, removed, joined, made}

-- ---- arrays padded with 0

pub padded_none : (n : ℕ) → padded n [] ≡ replicate n 0
unfolding padded
padded_none n = rw (sub-zero n)

pub take-padded : (n : ℕ) (s : List ℕ) → take (length s) (padded n s) ≡ s
unfolding padded
take-padded n s = take-append_seam s (replicate (n - length s) 0)

drop-replicate : (k n : ℕ) → k ≤ n → drop {A = ℕ} k (replicate n 0) ≡ replicate (n - k) 0
drop-replicate zero n h = rw (sub-zero n)
drop-replicate (suc k) zero h = absurd (not-suc-le-zero h)
drop-replicate (suc k) (suc n) h = let e : suc n - suc k ≡ n - k = omega arith in rw e (drop-replicate k n (omega arith))

-- octets put at the front of an array of 0
pub padded-sets : (n : ℕ) (s : List ℕ) → length s ≤ n → sets (replicate n 0) 0 s ≡ padded n s
unfolding padded
padded-sets n s h =
    let e = length-replicate {A = ℕ} n 0 in
    rw (sets-eq s (replicate n 0) 0 (omega arith), zero-add, drop-replicate (length s) n h)

append-padded : (w : List ℕ) (i : ℕ) → length w < 8 → set (padded 8 w) (length w) i ≡ padded 8 (w ++ (i ∷ []))
unfolding padded
append-padded w i h =
    let l = length-append w (i ∷ []) in
    let a : 8 - length w ≡ suc (8 - length (w ++ (i ∷ []))) = omega arith in
    rw (a, set-append_seam w 0 (replicate (8 - length (w ++ (i ∷ []))) 0) i) (simp append_assoc)

closed_padded : (w : List ℕ) (i : ℕ) → i < length w → length w ≤ 8 → closed (padded 8 w) i ≡ padded 8 (take i w ++ drop (suc i) w)
unfolding padded closed
closed_padded w i h l =
    let a : length (take i w) ≡ i = length-take-le i w (omega arith) in
    let b = length-append (take i w) (drop (suc i) w) in
    let c = length-drop (suc i) w in
    let d : 8 - length (take i w ++ drop (suc i) w) ≡ (8 - length w) + 1 = omega arith in
    rw (
      lt-ltb i 8 (omega arith),
      take-append-le i w (replicate (8 - length w) 0) (omega arith),
      drop-append-le (suc i) w (replicate (8 - length w) 0) (omega arith),
      d,
      ← replicate-append-replicate {A = ℕ} (8 - length w) 1 0,
    ) (simp append_assoc)

fewer_length : (w : List ℕ) (i : ℕ) → i < length w → length w - 1 ≡ length (take i w ++ drop (suc i) w)
fewer_length w i h = omega (arith, length-take-le i w (omega arith), length-append (take i w) (drop (suc i) w), length-drop (suc i) w)

-- ---- a state that is another

pub not_taken : {A : Type 0} → false ≡ true → A
not_taken e = let z : ◌≡◌ {A = ℕ} 0 1 = cc in absurd (omega arith)

-- the states as 01 numbers them
abbrev pub number_of : State → ℕ
number_of idle = 0
number_of (single a w t) = 1
number_of (multi a k t) = 2
number_of (ending a w t) = 3
number_of (assoc a w t) = 4

module _ (s : Setup) (u : Value) where
  pub number_is : (st : State) → u ≡ picture s st → u.state ≡ number_of st
  number_is idle e = rw e
  number_is (single a w t) e = rw e
  number_is (multi a k t) e = rw e
  number_is (ending a w t) e = rw e
  number_is (assoc a w t) e = rw e

  pub ids_are : (st : State) → u ≡ picture s st → ids_in u ≡ waiting_of st
  unfolding waiting_of
  ids_are idle e = rw e
  ids_are (single a w t) e = rw (e, take-padded 8 w)
  ids_are (multi a k t) e = rw (e, take-padded 8 (ids_of k))
  ids_are (ending a w t) e = rw (e, take-padded 8 w)
  ids_are (assoc a w t) e = rw (e, take-padded 8 w)

  pub count_is : (st : State) → u ≡ picture s st → u.count ≡ length (waiting_of st)
  unfolding waiting_of
  count_is idle e = rw e
  count_is (single a w t) e = rw e
  count_is (multi a k t) e = rw e
  count_is (ending a w t) e = rw e
  count_is (assoc a w t) e = rw e

  pub name_is : (st : State) → u ≡ picture s st → take u.letters u.name ≡ s.name
  name_is idle e = rw (e, take-padded 32 s.name)
  name_is (single a w t) e = rw (e, take-padded 32 s.name)
  name_is (multi a k t) e = rw (e, take-padded 32 s.name)
  name_is (ending a w t) e = rw (e, take-padded 32 s.name)
  name_is (assoc a w t) e = rw (e, take-padded 32 s.name)

  -- ---- back to Idle
  pub cleared_is : (st : State) → u ≡ picture s st → cleared u ≡ picture s idle
  unfolding cleared
  cleared_is idle e = rw (e, padded_none 8, padded_none 554)
  cleared_is (single a w t) e = rw (e, padded_none 8, padded_none 554)
  cleared_is (multi a k t) e = rw (e, padded_none 8, padded_none 554)
  cleared_is (ending a w t) e = rw (e, padded_none 8, padded_none 554)
  cleared_is (assoc a w t) e = rw (e, padded_none 8, padded_none 554)

-- ---- one state to another, by the field that moves

module _ (s : Setup) (T : Terms) (w : List ℕ) (t : ℕ) where
  pub ended_is : (u : Value) → u ≡ picture s (assoc T w t) → advanced u 3 0 ≡ picture s (ending T w 0)
  unfolding advanced
  ended_is u e = rw e

  pub back_is : (u : Value) → u ≡ picture s (ending T w t) → advanced u 4 0 ≡ picture s (assoc T w 0)
  unfolding advanced
  back_is u e = rw e

  pub fresh_is : (u : Value) → u ≡ picture s (assoc T w t) → advanced u 4 0 ≡ picture s (assoc T w 0)
  unfolding advanced
  fresh_is u e = rw e

  pub sent_is : (u : Value) (i : ℕ) → u ≡ picture s (assoc T w t) → length w < 8 → appended (advanced u 4 0) i ≡ picture s (assoc T (w ++ (i ∷ [])) 0)
  unfolding advanced waiting_with
  sent_is u i e h = rw (e, append-padded w i h, length-append w (i ∷ []))

  pub rested_assoc : (u : Value) → u ≡ picture s (assoc T w t) → rested u ≡ picture s (assoc T w 0)
  unfolding advanced rested
  rested_assoc u e = rw e

  pub rested_ending : (u : Value) → u ≡ picture s (ending T w t) → rested u ≡ picture s (ending T w t)
  unfolding advanced rested
  rested_ending u e = rw e

  pub removed_assoc : (u : Value) (i : ℕ) → u ≡ picture s (assoc T w t) → i < length w → length w ≤ 8 →
      removed (rested u) i ≡ picture s (assoc T (take i w ++ drop (suc i) w) 0)
  unfolding advanced rested waiting_with
  removed_assoc u i e h l = rw (e, closed_padded w i h l, fewer_length w i h)

  pub removed_ending : (u : Value) (i : ℕ) → u ≡ picture s (ending T w t) → i < length w → length w ≤ 8 →
      removed (rested u) i ≡ picture s (ending T (take i w ++ drop (suc i) w) t)
  unfolding advanced rested waiting_with
  removed_ending u i e h l = rw (e, closed_padded w i h l, fewer_length w i h)

module _ (s : Setup) (a : Terms) (u : Value) (e : u ≡ picture s idle) where
  pub opened_assoc : entered u 4 a ≡ picture s (assoc a [] 0)
  unfolding entered
  opened_assoc = rw (e, padded_none 554)

  pub opened_single : (m : Msg) → joined (entered u 1 a) (ids_of m) ≡ picture s (single a (ids_of m) 0)
  unfolding entered waiting_with ids_of
  opened_single (Rattle.book.specs.Book.plain i r q b) = rw (e, padded_none 554)
  opened_single (Rattle.book.specs.Book.sure i r q b) = rw (e, padded_none 554, append-padded [] i (omega arith))

  pub opened_multi : (m : Msg) → joined (keeping (entered u 2 a) (msg_octets m)) (ids_of m) ≡ picture s (multi a m 0)
  unfolding entered keeping waiting_with ids_of
  opened_multi (Rattle.book.specs.Book.plain i r q b) = rw e
  opened_multi (Rattle.book.specs.Book.sure i r q b) = rw (e, append-padded [] i (omega arith))

pub begun_assoc : (s : Setup) (T : Terms) (k : Msg) (t : ℕ) (u : Value) → u ≡ picture s (multi T k t) → entered u 4 u.terms ≡ picture s (assoc T (ids_of k) 0)
unfolding entered
begun_assoc s T k t u e = rw (e, padded_none 554)

pub made_is : (start end inactivity : ℕ) (name : List ℕ) →
    made start end inactivity (padded 32 name) (length name) ≡ picture (record { name = name; start_limit = start; end_limit = end; inactivity_limit = inactivity }) idle
made_is start end inactivity name = rw (padded_none 8, padded_none 554)
