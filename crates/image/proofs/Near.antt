-- A block that is another but for the octets from lo to hi, and the parts of a unit that are then the same.
use Prim.Native.Nat.{ℕ, suc, ◌+◌, ◌<◌, ◌≤◌}
use mathlib.Core.Path.{◌≡◌, refl, ap, sym, ◌∙◌}
use mathlib.Core.List.{List, [], ◌∷◌, ◌++◌}
use native.Mathlib.Omega.{arith}
use lib.ListN.{length, take, drop, get_or, set, length-set, length-drop, get_or-append}
use lib.Seq.{sets, sets-eq, ext_get_or, get_or-take, get_or-drop, get_or-set_other, get_or-append-add, length-take-le}
use Rattle.book.specs.declared.Unit.{Unit as Value}
use Rattle.image.specs.Image.{two, waiting_in, terms_in, unit_of}

pub record Near (s t : List ℕ) (lo hi : ℕ) : Type 0 where
  pub low : (j : ℕ) → j < lo → get_or t j 0 ≡ get_or s j 0
  pub high : (j : ℕ) → hi ≤ j → get_or t j 0 ≡ get_or s j 0
  pub long : length t ≡ length s

pub near_set : (s : List ℕ) (i x : ℕ) → Near s (set s i x) i (i + 1)
near_set s i x = record {
  low = λ j h. get_or-set_other s i j x 0 (λ e. omega arith);
  high = λ j h. get_or-set_other s i j x 0 (λ e. omega arith);
  long = length-set s i x;
}

pub near_then : {s t r : List ℕ} {lo mid hi : ℕ} → lo ≤ mid → mid ≤ hi → Near s t lo mid → Near t r mid hi → Near s r lo hi
near_then a b m n = record {
  low = λ j h. n.low j (omega arith) ∙ m.low j h;
  high = λ j h. n.high j h ∙ m.high j (omega arith);
  long = n.long ∙ m.long;
}

pub near_sets : (vs s : List ℕ) (i : ℕ) → Near s (sets s i vs) i (i + length vs)
near_sets [] s i = record { low = λ j h. refl; high = λ j h. refl; long = refl }
near_sets (x ∷ vs) s i =
    let n = near_sets vs (set s i x) (suc i) in
    let m = near_set s i x in
    record {
      low = λ j h. n.low j (omega arith) ∙ m.low j h;
      high = λ j h. n.high j (omega arith) ∙ m.high j (omega arith);
      long = n.long ∙ m.long;
    }

pub get_d_sets : (vs s : List ℕ) (at i : ℕ) → at + length vs ≤ length s → i < length vs → get_or (sets s at vs) (at + i) 0 ≡ get_or vs i 0
get_d_sets vs s at i h l =
    let n : length (take at s) ≡ at = length-take-le at s (omega arith) in
    let e : at + i ≡ length (take at s) + i = omega arith in
    ap (λ r. get_or r (at + i) 0) (sets-eq vs s at h)
    ∙ get_or-append (take at s ++ vs) (drop (at + length vs) s) 0 (at + i) (omega (arith, lib.ListN.length-append (take at s) vs))
    ∙ ap (λ k. get_or (take at s ++ vs) k 0) e
    ∙ get_or-append-add (take at s) vs i 0

-- ---- the unit by its fields

pub unit_as : (t : List ℕ) {u : Value} → take 32 t ≡ u.name → waiting_in t ≡ u.waiting → take 554 (drop 48 t) ≡ u.kept → get_or t 602 0 ≡ u.state
    → two t 603 ≡ u.start → two t 605 ≡ u.end → two t 607 ≡ u.inactivity → two t 609 ≡ u.elapsed → terms_in t ≡ u.terms → get_or t 614 0 ≡ u.letters
    → get_or t 615 0 ≡ u.count → two t 616 ≡ u.octets → unit_of t ≡ u
unfolding unit_of
unit_as t a b c d e f g h i j k l = rw (a, b, c, d, e, f, g, h, i, j, k, l)

module _ {s t : List ℕ} {lo hi : ℕ} (n : Near s t lo hi) where
  pub name_near : length s ≡ 618 → 32 ≤ lo → take 32 t ≡ take 32 s
  name_near e h =
      let a : length (take 32 t) ≡ 32 = length-take-le 32 t (omega (arith, n.long)) in
      let b : length (take 32 s) ≡ 32 = length-take-le 32 s (omega arith) in
      ext_get_or 0 (take 32 t) (take 32 s) (a ∙ sym b) (λ i l. get_or-take 32 t i 0 (omega arith) ∙ n.low i (omega arith) ∙ sym (get_or-take 32 s i 0 (omega arith)))

  kept_near : length s ≡ 618 → ((j : ℕ) → 48 ≤ j → j < 602 → get_or t j 0 ≡ get_or s j 0) → take 554 (drop 48 t) ≡ take 554 (drop 48 s)
  kept_near e f =
      let a : length (take 554 (drop 48 t)) ≡ 554 = length-take-le 554 (drop 48 t) (omega (arith, n.long, length-drop 48 t)) in
      let b : length (take 554 (drop 48 s)) ≡ 554 = length-take-le 554 (drop 48 s) (omega (arith, length-drop 48 s)) in
      ext_get_or 0 (take 554 (drop 48 t)) (take 554 (drop 48 s)) (a ∙ sym b)
      (λ i l. get_or-take 554 (drop 48 t) i 0 (omega arith) ∙ get_or-drop 48 t i 0 ∙ f (48 + i) (omega arith) (omega arith) ∙ sym (get_or-drop 48 s i 0) ∙ sym (get_or-take 554 (drop 48 s) i 0 (omega arith)))

  pub kept_below : length s ≡ 618 → 602 ≤ lo → take 554 (drop 48 t) ≡ take 554 (drop 48 s)
  kept_below e h = kept_near e (λ j a b. n.low j (omega arith))

  pub kept_above : length s ≡ 618 → hi ≤ 48 → take 554 (drop 48 t) ≡ take 554 (drop 48 s)
  kept_above e h = kept_near e (λ j a b. n.high j (omega arith))

  pub waiting_near : 48 ≤ lo → waiting_in t ≡ waiting_in s
  unfolding waiting_in
  waiting_near h =
      let g : (j : ℕ) → j < 48 → get_or t j 0 ≡ get_or s j 0 = λ j l. n.low j (omega arith) in
      rw (
        g 32 (omega arith),
        g 33 (omega arith),
        g 34 (omega arith),
        g 35 (omega arith),
        g 36 (omega arith),
        g 37 (omega arith),
        g 38 (omega arith),
        g 39 (omega arith),
        g 40 (omega arith),
        g 41 (omega arith),
        g 42 (omega arith),
        g 43 (omega arith),
        g 44 (omega arith),
        g 45 (omega arith),
        g 46 (omega arith),
        g 47 (omega arith),
      )

  pub two_low : (i : ℕ) → i + 1 < lo → two t i ≡ two s i
  two_low i h = rw (n.low i (omega arith), n.low (i + 1) h)

  pub two_high : (i : ℕ) → hi ≤ i → two t i ≡ two s i
  two_high i h = rw (n.high i h, n.high (i + 1) (omega arith))

  pub terms_low : 613 < lo → terms_in t ≡ terms_in s
  terms_low h = rw (n.low 611 (omega arith), n.low 612 (omega arith), n.low 613 (omega arith))

  pub terms_high : hi ≤ 611 → terms_in t ≡ terms_in s
  terms_high h = rw (n.high 611 (omega arith), n.high 612 (omega arith), n.high 613 (omega arith))
