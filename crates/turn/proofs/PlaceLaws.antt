-- The moves of a unit in its image, from their stores.
use Prim.Native.Nat.{ℕ, zero, suc, ◌+◌, ◌-◌, ◌<◌, ◌≤◌}
use mathlib.Core.Path.{◌≡◌, refl, ap, sym, ◌∙◌}
use mathlib.Core.List.{List, [], ◌++◌, append_assoc}
use native.Mathlib.Omega.{arith}
use lib.ListN.{length, take, drop, get_or, set, replicate, length-append, length-replicate, replicate-append-replicate, length-set, length-drop}
use lib.Seq.{length-take-le, sets, sets-eq, drop_at, drop-drop, set-get_or, get_or-set_other}
use borrow.Rule.Slice.PartMut.{put_mid}
use Rattle.book.specs.Book.{State, idle, single, multi, ending, assoc, Setup}
use Rattle.book.specs.View.{msg_octets}
use Rattle.book.specs.Picture.{padded, picture, setup_of, state_of}
use Rattle.book.specs.Ready.{Ready}
use Rattle.book.specs.Waiting.{closed}
use Rattle.book.specs.declared.Terms.{Terms}
use Rattle.book.specs.declared.Unit.{Unit as Value}
use Rattle.turn_laws.specs.Moves.{advanced, entered, cleared, keeping, waiting_with, appended, removed}
use Rattle.turn_laws.proofs.Moved.{padded-sets}
use Rattle.image.specs.Fields.{with_state, with_elapsed, with_terms, with_count, with_octets, with_waiting, with_kept, forgotten}
use Rattle.state.proofs.WaitingLaws.{closed_step, closed_end}
use Rattle.turn.specs.Acts.{NoneBehind}

-- octets written over a part of a block
pub part_set : (l : List ℕ) (at k : ℕ) {ys zs : List ℕ} → ys ≡ zs → length zs ≡ k → at + k ≤ length l → put_mid at k l ys ≡ sets l at zs
part_set l at k {ys} {zs} f w h =
    let d : drop k (drop at l) ≡ drop (at + k) l = drop-drop k at l in
    rw (f, d) (sym (rw w at (sets-eq zs l at (omega (arith, w))) ∙ append_assoc (take at l) zs (drop (at + k) l)))

-- ---- the same dialogue

pub advanced_by : (u : Value) (k e : ℕ) {v w : Value} → v ≡ with_state u k → w ≡ with_elapsed v e → w ≡ advanced u k e
unfolding with_state with_elapsed advanced
advanced_by u k e p q = q ∙ ap (λ x. with_elapsed x e) p

-- a part of a block filled with 0
pub part_filled : (l : List ℕ) (at k n : ℕ) {ys : List ℕ} → ys ≡ replicate (length (take k (drop at l))) 0 → k ≡ n → at + n ≤ length l → put_mid at k l ys ≡ sets l at (replicate n 0)
part_filled l at k n f q h =
    let m : length (take k (drop at l)) ≡ n = length-take-le k (drop at l) (omega (arith, length-drop at l)) ∙ q in
    part_set l at k (f ∙ ap (λ i. replicate {A = ℕ} i 0) m) (omega (arith, length-replicate {A = ℕ} n 0)) (omega arith)

-- ---- the kept frame

blank : (f : List ℕ) → length f ≤ 554 → sets (padded 554 f) 0 (replicate (length f) 0) ≡ replicate 554 0
unfolding padded
blank f h =
    let m = length-append f (replicate (554 - length f) 0) in
    let n = length-replicate {A = ℕ} (554 - length f) 0 in
    let k = length-replicate {A = ℕ} (length f) 0 in
    let e : 0 + length (replicate {A = ℕ} (length f) 0) ≡ length f = omega arith in
    let g : length f + (554 - length f) ≡ 554 = omega arith in
    sets-eq (replicate (length f) 0) (f ++ replicate (554 - length f) 0) 0 (omega arith)
    ∙ ap (λ k. replicate (length f) 0 ++ drop k (f ++ replicate (554 - length f) 0)) e
    ∙ ap (λ l. replicate (length f) 0 ++ l) (drop_at f (replicate (554 - length f) 0) (length f) refl)
    ∙ replicate-append-replicate {A = ℕ} (length f) (554 - length f) 0
    ∙ ap (λ k. replicate {A = ℕ} k 0) g

module _ (s : Setup) (u : Value) (h : u.octets ≤ 554) where
  wiped : (st : State) → u ≡ picture s st → sets u.kept 0 (replicate u.octets 0) ≡ replicate 554 0
  wiped idle e = rw e (blank [] (rw e at h))
  wiped (single a w t) e = rw e (blank [] (rw e at h))
  wiped (multi a k t) e = rw e (blank (msg_octets k) (rw e at h))
  wiped (ending a w t) e = rw e (blank [] (rw e at h))
  wiped (assoc a w t) e = rw e (blank [] (rw e at h))

pub forgot : {u : Value} {v w : Value} {n : ℕ} → Ready u → n ≡ u.octets → v ≡ with_kept u (sets u.kept 0 (replicate n 0)) → w ≡ with_octets v 0 → w ≡ forgotten u
unfolding with_kept with_octets forgotten
forgot {u} {v} {w} k e p q =
    q ∙ ap (λ x. with_octets x 0) (p ∙ ap (λ n. with_kept u (sets u.kept 0 (replicate n 0))) e
    ∙ ap (with_kept u) (wiped (setup_of u) u k.held (state_of u) k.whole))

pub entered_by : (u : Value) (k : ℕ) (a : Terms) {v w x : Value} → v ≡ forgotten u → w ≡ advanced v k 0 → x ≡ with_terms w a → x ≡ entered u k a
unfolding forgotten advanced with_terms entered
entered_by u k a p q r = r ∙ ap (λ y. with_terms y a) (q ∙ ap (λ y. advanced y k 0) p)

pub cleared_by : (u : Value) {v w x : Value} → v ≡ entered u 0 (record { class = 0; priority = 0; rer = 0 }) → w ≡ with_waiting v (replicate 8 0) → x ≡ with_count w 0 → x ≡ cleared u
unfolding entered with_waiting with_count cleared
cleared_by u p q r = r ∙ ap (λ y. with_count y 0) (q ∙ ap (λ y. with_waiting y (replicate 8 0)) p)

pub keeping_by : (u : Value) (f : List ℕ) {v w : Value} → u.kept ≡ replicate 554 0 → length f ≤ 554 → v ≡ with_kept u (sets u.kept 0 f) → w ≡ with_octets v (length f) → w ≡ keeping u f
unfolding with_kept with_octets keeping
keeping_by u f z h p q =
    q ∙ ap (λ y. with_octets y (length f)) (p ∙ ap (with_kept u) (ap (λ l. sets l 0 f) z ∙ padded-sets 554 f h))

-- ---- the waiting list

pub appended_by : (u : Value) (i : ℕ) {v w : Value} {n : ℕ} → n ≡ u.count → v ≡ with_waiting u (set u.waiting n i) → w ≡ with_count v (n + 1) → w ≡ appended u i
unfolding with_waiting with_count waiting_with
appended_by u i {n = n} e p q = q ∙ ap (λ y. with_count y (n + 1)) p ∙ ap (λ k. waiting_with u (set u.waiting k i) (k + 1)) e

-- where nothing stands behind a place, closing up there stores a 0
closed_tail : (d : ℕ) (w : List ℕ) (i : ℕ) → length w ≡ 8 → i + d ≡ 7 → ((j : ℕ) → i < j → get_or w j 0 ≡ 0) → closed w i ≡ set w i 0
closed_tail zero w i e h z =
    let k : i ≡ 7 = omega arith in
    sym (closed_end w i e (omega arith) (omega arith) refl) ∙ ap (λ n. set w n 0) (sym k)
closed_tail (suc d) w i e h z =
    let x : get_or w (i + 1) 0 ≡ 0 = z (i + 1) (omega arith) in
    let l : length (set w i 0) ≡ 8 = length-set w i 0 ∙ e in
    let y : (j : ℕ) → i + 1 < j → get_or (set w i 0) j 0 ≡ 0 = λ j k. get_or-set_other w i j 0 0 (λ q. omega arith) ∙ z j (omega arith) in
    let v : get_or (set w i 0) (i + 1) 0 ≡ 0 = get_or-set_other w i (i + 1) 0 0 (λ q. omega arith) ∙ x in
    sym (closed_step w i e (omega arith) refl) ∙ ap (λ n. closed (set w i n) (i + 1)) x ∙ closed_tail d (set w i 0) (i + 1) l (omega arith) y
    ∙ ap (set (set w i 0) (i + 1)) (sym v) ∙ set-get_or (set w i 0) (i + 1) 0

-- what is left of closing up before the place `last`, and that nothing else has changed
pub record Closing (o u : Value) (place last i : ℕ) : Type 0 where
  pub near : i ≤ last
  pub rest : closed u.waiting i ≡ closed o.waiting place
  pub only : u ≡ with_waiting o u.waiting
  pub none : (j : ℕ) → last < j → get_or u.waiting j 0 ≡ 0

pub closing_starts : (u : Value) (place : ℕ) {n : ℕ} → n ≡ u.count → place < u.count → NoneBehind u → Closing u u place (n - 1) place
unfolding with_waiting
closing_starts u place e h z = record { near = omega arith; rest = refl; only = refl; none = λ j k. z j (omega arith) }

pub closing_on : (o u : Value) (place last i : ℕ) (x : ℕ) {v : Value} → Closing o u place last i → i < last → last < 8 → length u.waiting ≡ 8 → x ≡ get_or u.waiting (i + 1) 0
    → v ≡ with_waiting u (set u.waiting i x) → Closing o v place last (i + 1)
unfolding with_waiting
closing_on o u place last i x {v} k h m l e p =
    let q : v.waiting ≡ set u.waiting i x = ap (λ (y : Value). y.waiting) p in
    let w : v.waiting ≡ set u.waiting i (get_or u.waiting (i + 1) 0) = q ∙ ap (set u.waiting i) e in
    record {
      near = omega arith;
      rest = ap (λ y. closed y (i + 1)) w ∙ closed_step u.waiting i l (omega arith) k.rest;
      only = p ∙ ap (λ (y : Value). with_waiting y (set u.waiting i x)) k.only ∙ ap (λ y. with_waiting o y) (sym q);
      none = λ j b. ap (λ y. get_or y j 0) q ∙ get_or-set_other u.waiting i j x 0 (λ z. omega arith) ∙ k.none j b;
    }

pub removed_by : (o u : Value) (place last i n : ℕ) {v w : Value} → Closing o u place last i → last ≤ i → last < 8 → length u.waiting ≡ 8
    → v ≡ with_waiting u (set u.waiting last 0) → n ≡ o.count → last ≡ n - 1 → w ≡ with_count v last → w ≡ removed o place
unfolding with_waiting with_count waiting_with
removed_by o u place last i n {v} k h m l p e f q =
    let g : i ≡ last = omega (arith, k.near) in
    let a : set u.waiting last 0 ≡ closed o.waiting place =
    sym (closed_tail (7 - last) u.waiting last l (omega arith) k.none) ∙ ap (closed u.waiting) (sym g) ∙ k.rest in
    let b : v ≡ with_waiting o (closed o.waiting place) = p ∙ ap (λ (y : Value). with_waiting y (set u.waiting last 0)) k.only ∙ ap (with_waiting o) a in
    let c : last ≡ o.count - 1 = omega arith in
    q ∙ ap (λ (y : Value). with_count y last) b ∙ ap (waiting_with o (closed o.waiting place)) c
