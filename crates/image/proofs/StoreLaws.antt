-- One law for each store: the unit that the image then stands for.
use Prim.Native.Nat.{ℕ, zero, suc, ◌+◌, ◌*◌, ◌/◌, ◌%◌, ◌<◌, ◌≤◌}
use mathlib.Core.Path.{◌≡◌, refl, ap, sym, ◌∙◌}
use mathlib.Core.List.{List, [], ◌∷◌}
use native.Mathlib.Omega.{arith}
use mathlib.Core.Bool.{Bool, true, false}
use borrow.Author.Tests.{ltb-true, ltb-false}
use lib.Dec.{ltb}
use lib.ListN.{length, take, drop, get_or, set, replicate, length-set, get_or-replicate}
use lib.Seq.{sets, take-set-lt, drop-set-add, get_or-set_same, get_or-set_other, ext_get_or}
use Rattle.book.specs.declared.Terms.{Terms}
use Rattle.image.specs.Image.{two, waiting_in, terms_in, unit_of}
use Rattle.image.specs.Fields.{with_state, with_elapsed, with_terms, with_count, with_octets, with_waiting, with_kept}
use Rattle.image.proofs.Near.{Near, near_set, near_then, near_sets, get_d_sets, unit_as, name_near, kept_below, kept_above, waiting_near, two_low, two_high, terms_low, terms_high}

-- a number's two octets
halves : (x : ℕ) → 256 * (x / 256) + x % 256 ≡ x
halves x = omega arith

pub near_two : (s : List ℕ) (i x y : ℕ) → Near s (set (set s i x) (i + 1) y) i (i + 2)
near_two s i x y =
    let e : i + 1 + 1 ≡ i + 2 = omega arith in
    rw e at (near_then {lo = i} {mid = i + 1} {hi = i + 1 + 1} (omega arith) (omega arith) (near_set s i x) (near_set (set s i x) (i + 1) y))

pub two-set : (s : List ℕ) (i x : ℕ) → i + 1 < length s → two (set (set s i (x / 256)) (i + 1) (x % 256)) i ≡ x
two-set s i x h =
    let t = set s i (x / 256) in
    let a : get_or (set t (i + 1) (x % 256)) i 0 ≡ x / 256 = get_or-set_other t (i + 1) i (x % 256) 0 (λ e. omega arith) ∙ get_or-set_same s i (x / 256) 0 (omega arith) in
    let b : get_or (set t (i + 1) (x % 256)) (i + 1) 0 ≡ x % 256 = get_or-set_same t (i + 1) (x % 256) 0 (omega (arith, length-set s i (x / 256))) in
    rw (a, b) (halves x)

module _ (s : List ℕ) (e : length s ≡ 618) where
  pub state_stored : (x : ℕ) → unit_of (set s 602 x) ≡ with_state (unit_of s) x
  unfolding with_state unit_of
  state_stored x =
      let n = near_set s 602 x in
      unit_as (set s 602 x) (name_near n e (omega arith)) (waiting_near n (omega arith)) (kept_below n e (omega arith)) (get_or-set_same s 602 x 0 (omega arith))
      (two_high n 603 (omega arith)) (two_high n 605 (omega arith)) (two_high n 607 (omega arith)) (two_high n 609 (omega arith)) (terms_high n (omega arith))
      (n.high 614 (omega arith)) (n.high 615 (omega arith)) (two_high n 616 (omega arith))

  pub elapsed_stored : (x : ℕ) → unit_of (set (set s 609 (x / 256)) 610 (x % 256)) ≡ with_elapsed (unit_of s) x
  unfolding with_elapsed unit_of
  elapsed_stored x =
      let n = near_two s 609 (x / 256) (x % 256) in
      unit_as (set (set s 609 (x / 256)) 610 (x % 256)) (name_near n e (omega arith)) (waiting_near n (omega arith)) (kept_below n e (omega arith)) (n.low 602 (omega arith))
      (two_low n 603 (omega arith)) (two_low n 605 (omega arith)) (two_low n 607 (omega arith)) (two-set s 609 x (omega arith)) (terms_high n (omega arith))
      (n.high 614 (omega arith)) (n.high 615 (omega arith)) (two_high n 616 (omega arith))

  pub terms_stored : (t : Terms) → unit_of (set (set (set s 611 t.class) 612 t.priority) 613 t.rer) ≡ with_terms (unit_of s) t
  unfolding with_terms unit_of
  terms_stored t =
      let s₁ = set s 611 t.class in
      let s₂ = set s₁ 612 t.priority in
      let s₃ = set s₂ 613 t.rer in
      let l₁ = length-set s 611 t.class in
      let l₂ = length-set s₁ 612 t.priority in
      let n : Near s s₃ 611 614 = near_then {lo = 611} {mid = 613} {hi = 614} (omega arith) (omega arith) (near_two s 611 t.class t.priority) (near_set s₂ 613 t.rer) in
      let a : get_or s₃ 611 0 ≡ t.class =
      get_or-set_other s₂ 613 611 t.rer 0 (λ z. omega arith) ∙ get_or-set_other s₁ 612 611 t.priority 0 (λ z. omega arith) ∙ get_or-set_same s 611 t.class 0 (omega arith) in
      let b : get_or s₃ 612 0 ≡ t.priority = get_or-set_other s₂ 613 612 t.rer 0 (λ z. omega arith) ∙ get_or-set_same s₁ 612 t.priority 0 (omega arith) in
      let c : get_or s₃ 613 0 ≡ t.rer = get_or-set_same s₂ 613 t.rer 0 (omega arith) in
      let q : terms_in s₃ ≡ t = rw (a, b, c) in
      unit_as s₃ (name_near n e (omega arith)) (waiting_near n (omega arith)) (kept_below n e (omega arith)) (n.low 602 (omega arith))
      (two_low n 603 (omega arith)) (two_low n 605 (omega arith)) (two_low n 607 (omega arith)) (two_low n 609 (omega arith)) q
      (n.high 614 (omega arith)) (n.high 615 (omega arith)) (two_high n 616 (omega arith))

  pub count_stored : (x : ℕ) → unit_of (set s 615 x) ≡ with_count (unit_of s) x
  unfolding with_count unit_of
  count_stored x =
      let n = near_set s 615 x in
      unit_as (set s 615 x) (name_near n e (omega arith)) (waiting_near n (omega arith)) (kept_below n e (omega arith)) (n.low 602 (omega arith))
      (two_low n 603 (omega arith)) (two_low n 605 (omega arith)) (two_low n 607 (omega arith)) (two_low n 609 (omega arith)) (terms_low n (omega arith))
      (n.low 614 (omega arith)) (get_or-set_same s 615 x 0 (omega arith)) (two_high n 616 (omega arith))

  pub octets_stored : (x : ℕ) → unit_of (set (set s 616 (x / 256)) 617 (x % 256)) ≡ with_octets (unit_of s) x
  unfolding with_octets unit_of
  octets_stored x =
      let n = near_two s 616 (x / 256) (x % 256) in
      unit_as (set (set s 616 (x / 256)) 617 (x % 256)) (name_near n e (omega arith)) (waiting_near n (omega arith)) (kept_below n e (omega arith)) (n.low 602 (omega arith))
      (two_low n 603 (omega arith)) (two_low n 605 (omega arith)) (two_low n 607 (omega arith)) (two_low n 609 (omega arith)) (terms_low n (omega arith))
      (n.low 614 (omega arith)) (n.low 615 (omega arith)) (two-set s 616 x (omega arith))

-- ---- the waiting list

pub waiting_eight : (s : List ℕ) → length (waiting_in s) ≡ 8
unfolding waiting_in
waiting_eight s = refl

pub id_in : (s : List ℕ) (i : ℕ) → i < 8 → two s (32 + 2 * i) ≡ get_or (waiting_in s) i 0
unfolding waiting_in
id_in s zero h = refl
id_in s (suc zero) h = refl
id_in s (suc (suc zero)) h = refl
id_in s (suc (suc (suc zero))) h = refl
id_in s (suc (suc (suc (suc zero)))) h = refl
id_in s (suc (suc (suc (suc (suc zero))))) h = refl
id_in s (suc (suc (suc (suc (suc (suc zero)))))) h = refl
id_in s (suc (suc (suc (suc (suc (suc (suc zero))))))) h = refl
id_in s (suc (suc (suc (suc (suc (suc (suc (suc i)))))))) h = absurd (omega arith)

module _ (s : List ℕ) (e : length s ≡ 618) where
  -- whatever is stored among the octets of the waiting list
  waiting_only : {t : List ℕ} {lo hi : ℕ} → Near s t lo hi → 32 ≤ lo → hi ≤ 48 → {w : List ℕ} → waiting_in t ≡ w → unit_of t ≡ with_waiting (unit_of s) w
  unfolding with_waiting unit_of
  waiting_only {t} n a b q =
      unit_as t (name_near n e a) q (kept_above n e b) (n.high 602 (omega arith))
      (two_high n 603 (omega arith)) (two_high n 605 (omega arith)) (two_high n 607 (omega arith)) (two_high n 609 (omega arith)) (terms_high n (omega arith))
      (n.high 614 (omega arith)) (n.high 615 (omega arith)) (two_high n 616 (omega arith))

  module _ (i x : ℕ) (h : i < 8) where
    abbrev after : List ℕ
    after = set (set s (32 + 2 * i) (x / 256)) (32 + 2 * i + 1) (x % 256)

    n : Near s after (32 + 2 * i) (32 + 2 * i + 2)
    n = near_two s (32 + 2 * i) (x / 256) (x % 256)

    one_id : (j : ℕ) → j < 8 → get_or (waiting_in after) j 0 ≡ get_or (set (waiting_in s) i x) j 0
    one_id j l = sym (id_in after j l) ∙ go (ltb j i) refl (ltb i j) refl
      where
        other : (j ≡ i → ⊥) → two after (32 + 2 * j) ≡ two s (32 + 2 * j) → two after (32 + 2 * j) ≡ get_or (set (waiting_in s) i x) j 0
        other z q = q ∙ id_in s j l ∙ sym (get_or-set_other (waiting_in s) i j x 0 z)

        go : (a : Bool) → a ≡ ltb j i → (b : Bool) → b ≡ ltb i j → two after (32 + 2 * j) ≡ get_or (set (waiting_in s) i x) j 0
        go true p b q = let m = ltb-true j i (sym p) in other (λ z. omega arith) (two_low n (32 + 2 * j) (omega arith))
        go false p true q = let m = ltb-true i j (sym q) in other (λ z. omega arith) (two_high n (32 + 2 * j) (omega arith))
        go false p false q =
            let k = ltb-false j i (sym p) in
            let m = ltb-false i j (sym q) in
            let r : j ≡ i = omega arith in
            rw r (two-set s (32 + 2 * i) x (omega arith) ∙ sym (get_or-set_same (waiting_in s) i x 0 (omega (arith, waiting_eight s))))

    pub id_stored : unit_of after ≡ with_waiting (unit_of s) (set (waiting_in s) i x)
    id_stored =
        let m = length-set (waiting_in s) i x in
        let l = waiting_eight s in
        let k = waiting_eight after in
        waiting_only n (omega arith) (omega arith)
        (ext_get_or 0 (waiting_in after) (set (waiting_in s) i x) (omega arith) (λ j r. one_id j (omega arith)))

  pub ids_cleared : {t : List ℕ} → t ≡ sets s 32 (replicate 16 0) → unit_of t ≡ with_waiting (unit_of s) (replicate 8 0)
  unfolding waiting_in
  ids_cleared q =
      let z : (i : ℕ) → i < 16 → get_or (sets s 32 (replicate 16 0)) (32 + i) 0 ≡ 0 = λ i h. get_d_sets (replicate 16 0) s 32 i (omega arith) h ∙ get_or-replicate {A = ℕ} 16 i 0 0 h in
      ap unit_of q ∙ waiting_only (near_sets (replicate 16 0) s 32) (omega arith) (omega arith)
      (rw (
        z 0 (omega arith),
        z 1 (omega arith),
        z 2 (omega arith),
        z 3 (omega arith),
        z 4 (omega arith),
        z 5 (omega arith),
        z 6 (omega arith),
        z 7 (omega arith),
        z 8 (omega arith),
        z 9 (omega arith),
        z 10 (omega arith),
        z 11 (omega arith),
        z 12 (omega arith),
        z 13 (omega arith),
        z 14 (omega arith),
        z 15 (omega arith),
      ))

-- ---- the kept frame

kept_sets : (f s : List ℕ) (k : ℕ) → k + length f ≤ 554 → take 554 (drop 48 (sets s (48 + k) f)) ≡ sets (take 554 (drop 48 s)) k f
kept_sets [] s k h = refl
kept_sets (x ∷ f) s k h =
    let a : suc (48 + k) ≡ 48 + suc k = omega arith in
    let b : take 554 (drop 48 (set s (48 + k) x)) ≡ set (take 554 (drop 48 s)) k x = ap (take 554) (drop-set-add 48 s k x) ∙ take-set-lt 554 (drop 48 s) k x (omega arith) in
    rw a (kept_sets f (set s (48 + k) x) (suc k) (omega arith) ∙ ap (λ l. sets l (suc k) f) b)

module _ (s : List ℕ) (e : length s ≡ 618) (f : List ℕ) (h : length f ≤ 554) where
  pub kept_stored : {t : List ℕ} → t ≡ sets s 48 f → unit_of t ≡ with_kept (unit_of s) (sets (unit_of s).kept 0 f)
  unfolding with_kept unit_of
  kept_stored q =
      let n = near_sets f s 48 in
      ap unit_of q ∙ unit_as (sets s 48 f) (name_near n e (omega arith)) (waiting_near n (omega arith)) (kept_sets f s 0 (omega arith)) (n.high 602 (omega arith))
      (two_high n 603 (omega arith)) (two_high n 605 (omega arith)) (two_high n 607 (omega arith)) (two_high n 609 (omega arith)) (terms_high n (omega arith))
      (n.high 614 (omega arith)) (n.high 615 (omega arith)) (two_high n 616 (omega arith))
