-- Laws of a line and its line feed: no line feed stands among the pairs of digits at the front, so they are the line's own. Closed by induction on
-- the characters, two at a time, and by the count of the pairs.
use Rattle.std.specs.Prelude.{None, Option, Some, cond, min, ◌&&◌}
use Prim.Native.Nat.{ℕ, zero, suc, ◌+◌, ◌*◌, ◌<◌, ◌≤◌}
use mathlib.Core.Path.{◌≡◌, refl, sym, ◌∙◌}
use mathlib.Core.Bool.{Bool, true, false}
use mathlib.Core.List.{List, [], ◌∷◌}
use native.Mathlib.Omega.{arith}
use borrow.Author.Tests.{eqb-true, eqb-false, eq-eqb, le-leb, le-ltb, lt-ltb, ltb-true, ltb-false, leb-true}
use lib.Dec.{eqb, ltb, leb}
use lib.ListN.{length, take, drop}
use lib.Seq.{length-take-le}
use Rattle.octets.specs.Choice.{pick, both}
use Rattle.text.specs.Digits.{value_of, octet_of}
use Rattle.text.specs.Reading.{led, leading, to_feed, feed_from, event_in, said, line_in}
use Rattle.text.proofs.LineLaws.{feed_within}

-- ---- a line feed is no digit

feed_first : (a b : ℕ) → true ≡ eqb a 10 → octet_of (value_of a) (value_of b) ≡ None
unfolding value_of
feed_first a b e = let h : a ≡ 10 = eqb-true a 10 (sym e) in rw h

feed_second : (a b : ℕ) → true ≡ eqb b 10 → octet_of (value_of a) (value_of b) ≡ None
unfolding value_of
feed_second a b e = let h : b ≡ 10 = eqb-true b 10 (sym e) in rw h (never (value_of a))
  where
    never : (o : Option ℕ) → octet_of o None ≡ None
    never None = refl
    never (Some x) = refl

-- ---- the pairs at the front are the line's

pub leading_cut : (s : List ℕ) → leading (take (to_feed s) s) ≡ leading s
unfolding leading to_feed
leading_cut [] = refl
leading_cut (a ∷ []) = go (eqb a 10)
  where
    go : (x : Bool) → leading (take (pick x 0 1) (a ∷ [])) ≡ []
    go true = refl
    go false = refl
leading_cut (a ∷ (b ∷ s)) = go (leading_cut s) (eqb a 10) (eqb b 10) refl refl
  where
    go : leading (take (to_feed s) s) ≡ leading s → (x y : Bool) → x ≡ eqb a 10 → y ≡ eqb b 10
        → leading (take (pick x 0 (suc (pick y 0 (suc (to_feed s))))) (a ∷ (b ∷ s))) ≡ led (octet_of (value_of a) (value_of b)) (leading s)
    go e true y p q = rw (feed_first a b p)
    go e false true p q = rw (feed_second a b q)
    go e false false p q = rw e

pub leading_fed : (s : List ℕ) → 2 * length (leading s) ≤ to_feed s
unfolding leading to_feed
leading_fed [] = omega arith
leading_fed (a ∷ []) = omega arith
leading_fed (a ∷ (b ∷ s)) = go (leading_fed s) (eqb a 10) (eqb b 10) (octet_of (value_of a) (value_of b)) refl refl refl
  where
    go : 2 * length (leading s) ≤ to_feed s → (x y : Bool) (o : Option ℕ) → x ≡ eqb a 10 → y ≡ eqb b 10 → o ≡ octet_of (value_of a) (value_of b)
        → 2 * length (led o (leading s)) ≤ pick x 0 (suc (pick y 0 (suc (to_feed s))))
    go h x y None p q r = omega arith
    go h true y (Some c) p q r = let e = r ∙ feed_first a b p in let z : ◌≡◌ {A = ℕ} 0 1 = cc in absurd (omega arith)
    go h false true (Some c) p q r = let e = r ∙ feed_second a b q in let z : ◌≡◌ {A = ℕ} 0 1 = cc in absurd (omega arith)
    go h false false (Some c) p q r = omega arith

pub fed_from : (j : ℕ) (s : List ℕ) → j ≤ to_feed s → j + to_feed (drop j s) ≡ to_feed s
unfolding to_feed
fed_from zero s h = omega arith
fed_from (suc j) [] h = absurd (omega arith)
fed_from (suc j) (c ∷ s) h = go (fed_from j s) (eqb c 10) h
  where
    go : (j ≤ to_feed s → j + to_feed (drop j s) ≡ to_feed s) → (x : Bool) → suc j ≤ pick x 0 (suc (to_feed s)) → suc j + to_feed (drop j s) ≡ pick x 0 (suc (to_feed s))
    go f true k = absurd (omega arith)
    go f false k = let e = f (omega arith) in omega arith

-- ---- the answer

module _ (s : List ℕ) (cap n end : ℕ) (full : cap ≡ 2048) (given : n ≡ min cap (length (leading s))) (place : end ≡ feed_from s (2 * n)) where
  few : n ≤ length (leading s)
  few = omega arith

  fed : end ≡ to_feed s
  unfolding feed_from
  fed = place ∙ fed_from (2 * n) s (omega (arith, few, leading_fed s))

  -- the line's length, and how many octets its pairs are
  long : length (take (to_feed s) s) ≡ to_feed s
  long = length-take-le (to_feed s) s (feed_within s)

  pub line_open : length s ≤ end → None ≡ line_in s
  unfolding line_in
  line_open h = rw (le-ltb (to_feed s) (length s) (omega (arith, fed)))

  all : end ≡ 2 * n → n ≡ length (leading s)
  all e = omega (arith, few, fed, leading_fed s)

  said_octets : end ≡ 2 * n → 0 < n → event_in (take (to_feed s) s) ≡ Some (leading s)
  unfolding event_in
  said_octets e h =
      let k = all e in
      rw (
        leading_cut s,
        long,
        lt-ltb 0 (to_feed s) (omega (arith, fed)),
        le-leb (to_feed s) 4096 (omega (arith, fed)),
        eq-eqb (2 * length (leading s)) (to_feed s) (omega (arith, fed)),
      )

  said_none : (end ≡ 2 * n → n ≡ 0) → event_in (take (to_feed s) s) ≡ None
  unfolding event_in
  said_none h = rw (leading_cut s, long) (go (ltb 0 k) refl (leb k 4096) refl (eqb (2 * length (leading s)) k) refl)
    where
      k : ℕ
      k = to_feed s

      none_of : 0 < k → k ≤ 4096 → 2 * length (leading s) ≡ k → ⊥
      none_of x y z =
          let m : n ≡ length (leading s) = omega arith in
          let w = h (omega (arith, fed)) in
          omega arith

      go : (x : Bool) → x ≡ ltb 0 k → (y : Bool) → y ≡ leb k 4096 → (z : Bool) → z ≡ eqb (2 * length (leading s)) k
          → pick (both x (both y z)) (Some (leading s)) None ≡ None
      go false p y q z r = refl
      go true p false q z r = refl
      go true p true q false r = refl
      go true p true q true r =
          absurd (none_of (ltb-true 0 k (sym p)) (leb-true k 4096 (sym q)) (eqb-true (2 * length (leading s)) k (sym r)))

  pub line_ended : end < length s → (o : Option ℕ) → o ≡ cond (ltb 0 n && eqb end (2 * n)) (Some n) None → Some (record { octets = o; next = end + 1 }) ≡ line_in s
  unfolding line_in
  line_ended h o e = rw (lt-ltb (to_feed s) (length s) (omega (arith, fed)), e) (go (ltb 0 n) refl (eqb end (2 * n)) refl)
    where
      go : (x : Bool) → x ≡ ltb 0 n → (y : Bool) → y ≡ eqb end (2 * n)
          → Some (record { octets = cond (x && y) (Some n) None; next = end + 1 }) ≡ Some (said (event_in (take (to_feed s) s)) (to_feed s + 1))
      go true p true q =
          let k = ltb-true 0 n (sym p) in
          let z = eqb-true end (2 * n) (sym q) in
          rw (said_octets z k, ← fed, ← all z)
      go true p false q = let z = eqb-false end (2 * n) (sym q) in rw (said_none (λ e. absurd (z e)), fed)
      go false p y q = let k = ltb-false 0 n (sym p) in rw (said_none (λ e. omega arith), fed)
