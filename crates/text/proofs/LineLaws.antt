-- Laws of a line of digits: the line feed, and the pairs at the front. Closed by induction on the characters.
use Rattle.std.specs.Prelude.{None, Some, cond, min, not}
use Rattle.std.specs.List.{position, position_or_len, slice_range}
use Rattle.std.specs.Option.{unwrap_or}
use Prim.Native.Nat.{ℕ, suc, ◌+◌, ◌-◌, ◌*◌, ◌/◌, ◌<◌, ◌≤◌}
use mathlib.Core.Path.{◌≡◌, refl, sym, ◌∙◌}
use mathlib.Core.Bool.{Bool, true, false}
use mathlib.Core.List.{List, [], ◌∷◌}
use native.Mathlib.Numerals.{add-one}
use native.Mathlib.Nat.{add-zero}
use native.Mathlib.Omega.{arith}
use borrow.Author.Tests.{ltb-true, ltb-false}
use lib.Dec.{eqb, ltb}
use lib.ListN.{length, drop, get_or, set, length-set, length-drop, drop_of_length-le}
use lib.Seq.{drop-cons, sets, take_all}
use Rattle.octets.proofs.Puts.{sets_out}
use Rattle.octets.specs.Choice.{pick}
use Rattle.text.specs.Digits.{value_of, octet_of}
use Rattle.text.specs.Reading.{led, leading, to_feed, feed_from}

-- ---- the line feed

-- it is std's first place
pub to_feed_is : (s : List ℕ) → position_or_len (λ c. eqb c 10) s ≡ to_feed s
unfolding to_feed
to_feed_is [] = refl
to_feed_is (c ∷ s) = go (to_feed_is s) (eqb c 10)
  where
    go : position_or_len (λ x. eqb x 10) s ≡ to_feed s → (b : Bool) → cond (not b) (1 + position_or_len (λ x. eqb x 10) s) 0 ≡ pick b 0 (suc (to_feed s))
    go e true = refl
    go e false = omega arith

pub feed_within : (s : List ℕ) → to_feed s ≤ length s
unfolding to_feed
feed_within [] = omega arith
feed_within (c ∷ s) = go (feed_within s) (eqb c 10)
  where
    go : to_feed s ≤ length s → (b : Bool) → pick b 0 (suc (to_feed s)) ≤ suc (length s)
    go h true = omega arith
    go h false = omega arith

pub feed_out : (s : List ℕ) (from : ℕ) → length s ≤ from → from ≡ feed_from s from
unfolding feed_from to_feed
feed_out s from h = rw (drop_of_length-le s {i = from} h) (sym (add-zero from))

pub feed_first : (s : List ℕ) → unwrap_or (position (λ c. eqb c 10) s) (length s) ≡ to_feed s
feed_first s = rw (to_feed_is s) (go (ltb (to_feed s) (length s)) refl)
  where
    go : (b : Bool) → b ≡ ltb (to_feed s) (length s) → unwrap_or (cond b (Some (to_feed s)) None) (length s) ≡ to_feed s
    go true e = refl
    go false e = let h = ltb-false (to_feed s) (length s) (sym e) in omega (arith, feed_within s)

pub feed_some : (s rest : List ℕ) (from u : ℕ) → rest ≡ slice_range s from (length s) → u ≡ unwrap_or (position (λ c. eqb c 10) rest) (length rest)
    → from + u ≡ feed_from s from
unfolding feed_from
feed_some s rest from u e f =
    let d : rest ≡ drop from s = e ∙ take_all (length s - from) (drop from s) (omega (arith, length-drop from s)) in
    rw (f, d, feed_first (drop from s))

-- ---- the pairs at the front

module _ (s : List ℕ) (j : ℕ) where
  two_on : j + 1 < length s → drop j s ≡ get_or s j 0 ∷ (get_or s (j + 1) 0 ∷ drop (j + 2) s)
  two_on h =
      let e : suc (j + 1) ≡ j + 2 = omega arith in
      rw (drop-cons s j 0 (omega arith), ← add-one j, drop-cons s (j + 1) 0 h, e)

  pub leading_on : j + 1 < length s → leading (drop j s) ≡ led (octet_of (value_of (get_or s j 0)) (value_of (get_or s (j + 1) 0))) (leading (drop (j + 2) s))
  unfolding leading
  leading_on h = rw (two_on h)

  leading_short : length s ≤ j + 1 → leading (drop j s) ≡ []
  unfolding leading
  leading_short h = few (drop j s) (omega (arith, length-drop j s))
    where
      few : (l : List ℕ) → length l ≤ 1 → leading l ≡ []
      few [] k = refl
      few (a ∷ []) k = refl
      few (a ∷ (b ∷ l)) k = absurd (omega arith)

-- i octets are put: those that are left give, put now, what all of them give at the start
pub record Begun (s before now : List ℕ) (i : ℕ) : Type 0 where
  pub wide : length now ≡ length before
  pub held : sets now i (leading (drop (2 * i) s)) ≡ sets before 0 (leading s)
  pub count : i + length (leading (drop (2 * i) s)) ≡ length (leading s)

pub begun_start : (s b : List ℕ) → Begun s b b 0
begun_start s b = record { wide = refl; held = refl; count = omega arith }

module _ {s b e : List ℕ} {i : ℕ} (g : Begun s b e i) where
  pub begun_step : (x : ℕ) → 2 * i + 1 < length s → octet_of (value_of (get_or s (2 * i) 0)) (value_of (get_or s (2 * i + 1) 0)) ≡ Some x
      → Begun s b (set e i x) (i + 1)
  begun_step x h o =
      let l : leading (drop (2 * i) s) ≡ x ∷ leading (drop (2 * i + 2) s) = leading_on s (2 * i) h ∙ rw o in
      let n : 2 * (i + 1) ≡ 2 * i + 2 = omega arith in
      record {
        wide = length-set e i x ∙ g.wide;
        held = rw (n, add-one i) (rw l at g.held);
        count = let c : i + suc (length (leading (drop (2 * i + 2) s))) ≡ length (leading s) = rw l at g.count in rw n (omega arith);
      }

  -- no octet follows: all that is to be put is put
  stopped : i ≤ length b → leading (drop (2 * i) s) ≡ [] → (i ≡ min (length b) (length (leading s))) × (e ≡ sets b 0 (leading s))
  stopped h l = (let z : i + 0 ≡ length (leading s) = rw l at g.count in omega arith, rw l at g.held)

  pub begun_stop : i ≤ length b → 2 * i + 1 < length s → octet_of (value_of (get_or s (2 * i) 0)) (value_of (get_or s (2 * i + 1) 0)) ≡ None
      → (i ≡ min (length b) (length (leading s))) × (e ≡ sets b 0 (leading s))
  begun_stop h k o = stopped h (leading_on s (2 * i) k ∙ rw o)

  pub begun_end : i ≡ min (length b) (length s / 2) → (i ≡ min (length b) (length (leading s))) × (e ≡ sets b 0 (leading s))
  begun_end h = go (ltb i (length b)) refl
    where
      go : (t : Bool) → t ≡ ltb i (length b) → (i ≡ min (length b) (length (leading s))) × (e ≡ sets b 0 (leading s))
      go true q = let l = ltb-true i (length b) (sym q) in stopped (omega arith) (leading_short s (2 * i) (omega arith))
      go false q =
          let l = ltb-false i (length b) (sym q) in
          (omega (arith, g.count), sym (sets_out (leading (drop (2 * i) s)) e i (omega (arith, g.wide))) ∙ g.held)
