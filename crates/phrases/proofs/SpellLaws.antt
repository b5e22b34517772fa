-- Laws of spelling: a number's digits, and octets as they are shown. Closed by `rw` with the tests.
use Prim.Native.Nat.{ℕ, ◌+◌, ◌*◌, ◌/◌, ◌<◌, ◌≤◌}
use mathlib.Core.Path.{◌≡◌, refl, sym}
use mathlib.Core.Bool.{Bool, true, false}
use mathlib.Core.List.{List, [], ◌∷◌, ◌++◌, append-nil}
use native.Mathlib.Omega.{arith}
use borrow.Author.Tests.{le-ltb, lt-ltb, ltb-true, ltb-false}
use lib.Dec.{ltb}
use lib.ListN.{length, take}
use lib.Seq.{sets}
use Rattle.std.proofs.lemmas.List.{take_min}
use Rattle.std.specs.List.{list_all}
use Rattle.std.specs.Prelude.{min}
use Rattle.octets.specs.Put.{Put}
use Rattle.text.specs.Printing.{digits_of}
use Rattle.text.proofs.PrintLaws.{digits_long}
use Rattle.phrases.specs.Spelling.{spelled, digit, digit_at, decimal_in, decimal, printable, quote, shown, beginning}

-- ---- numbers

-- the digits of the powers of ten, one after the other
pub number_said : (n : ℕ) → digit_at n 10000 ++ digit_at n 1000 ++ digit_at n 100 ++ digit_at n 10 ++ (digit n ∷ []) ≡ decimal n
unfolding decimal_in
number_said n = go (ltb n 10) refl (ltb n 100) refl (ltb n 1000) refl (ltb n 10000) refl
  where
    go : (a : Bool) → a ≡ ltb n 10 → (b : Bool) → b ≡ ltb n 100 → (c : Bool) → c ≡ ltb n 1000 → (d : Bool) → d ≡ ltb n 10000
        → digit_at n 10000 ++ digit_at n 1000 ++ digit_at n 100 ++ digit_at n 10 ++ (digit n ∷ []) ≡ decimal n
    go true e b f c g d h =
        let l = ltb-true n 10 (sym e) in
        rw (lt-ltb n 10 l, lt-ltb n 100 (omega arith), lt-ltb n 1000 (omega arith), lt-ltb n 10000 (omega arith))
    go false e true f c g d h =
        let k = ltb-false n 10 (sym e) in
        let l = ltb-true n 100 (sym f) in
        rw (le-ltb n 10 k, lt-ltb n 100 l, lt-ltb n 1000 (omega arith), lt-ltb n 10000 (omega arith), lt-ltb (n / 10) 10 (omega arith))
    go false e false f true g d h =
        let k = ltb-false n 100 (sym f) in
        let l = ltb-true n 1000 (sym g) in
        let p : n / 10 / 10 ≡ n / 100 = omega arith in
        rw (le-ltb n 10 (omega arith), le-ltb n 100 k, lt-ltb n 1000 l, lt-ltb n 10000 (omega arith), le-ltb (n / 10) 10 (omega arith), p, lt-ltb (n / 100) 10 (omega arith))
    go false e false f false g true h =
        let k = ltb-false n 1000 (sym g) in
        let l = ltb-true n 10000 (sym h) in
        let p : n / 10 / 10 ≡ n / 100 = omega arith in
        let q : n / 100 / 10 ≡ n / 1000 = omega arith in
        rw (le-ltb n 10 (omega arith), le-ltb n 100 (omega arith), le-ltb n 1000 k, lt-ltb n 10000 l, le-ltb (n / 10) 10 (omega arith), p, le-ltb (n / 100) 10 (omega arith), q, lt-ltb (n / 1000) 10 (omega arith))
    go false e false f false g false h =
        let k = ltb-false n 10000 (sym h) in
        let p : n / 10 / 10 ≡ n / 100 = omega arith in
        let q : n / 100 / 10 ≡ n / 1000 = omega arith in
        let r : n / 1000 / 10 ≡ n / 10000 = omega arith in
        rw (le-ltb n 10 (omega arith), le-ltb n 100 (omega arith), le-ltb n 1000 (omega arith), le-ltb n 10000 k, le-ltb (n / 10) 10 (omega arith), p, le-ltb (n / 100) 10 (omega arith), q, le-ltb (n / 1000) 10 (omega arith), r)

-- ---- octets

module _ (s : List ℕ) where
  pub shown_text : list_all printable s ≡ true → quote ++ s ++ quote ≡ shown s
  unfolding shown
  shown_text e = rw e

  pub shown_digits : list_all printable s ≡ false → spelled "octets " ++ digits_of s ≡ shown s
  unfolding shown
  shown_digits e = rw e

pub digits_put : {b b1 : List ℕ} {i j : ℕ} (s : List ℕ) → j ≡ i + 2 * length s → b1 ≡ sets b i (digits_of s) → Put b i (digits_of s) b1 j
digits_put s e h = record { held = h; place = omega (arith, digits_long s) }

pub front_is : (s : List ℕ) {n : ℕ} → n ≡ min (length s) 32 → take n s ≡ take 32 s
front_is s {n} e = let f : n ≡ min 32 (length s) = omega arith in rw f (take_min 32 s)

module _ (s t : List ℕ) (e : t ≡ take 32 s) where
  pub begins_more : 32 < length s → shown t ++ spelled " ..." ≡ beginning s
  unfolding beginning
  begins_more h = rw (e, lt-ltb 32 (length s) h)

  pub begins_all : length s ≤ 32 → shown t ≡ beginning s
  unfolding beginning
  begins_all h = rw (e, le-ltb 32 (length s) h, append-nil)
