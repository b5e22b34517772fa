-- The reader's loop over extension fields: what a turn takes, and what is left to read after it. Closed by taking the answer apart, or by `simp`
-- with the tests. And two faults, under the tests that lead there.
use Rattle.std.specs.Prelude.{Option, Ok, Err}
use Prim.Native.Nat.{ℕ, zero, suc, ◌+◌, ◌-◌, ◌*◌, ◌/◌, ◌%◌, ◌<◌, ◌≤◌}
use native.Mathlib.Omega.{arith}
use mathlib.Core.List.{List}
use mathlib.Core.Bool.{Bool, true, false, not}
use mathlib.Core.Path.{◌≡◌, refl, sym, ap, ◌∙◌}
use lib.ListN.{length}
use lib.Dec.{eqb}
use borrow.Author.Tests.{le-leb, lt-leb, le-ltb, lt-ltb, ne_eqb, not-false, leb-true}
use Rattle.octets.specs.Choice.{pick}
use Rattle.frame.specs.declared.Fault.{Fault}
use Rattle.frame.specs.declared.Fault.TheVariants.{Incomplete, BadOctet, BadLength, Lacking}
use Rattle.frame.specs.declared.Place.{Place}
use Rattle.frame.specs.Message.{lacks}
use Rattle.frame.specs.Reading.{room, octet, number, bit, opened, octets_at, data_at, extension_at}
use Rattle.frame.specs.Reading.{at_place, extensions_from}

-- an answer that is a field came past the tests for a fault
past : (a b c d : Bool) (g f : Option Place × ℕ) → pick a (Err Incomplete) (pick b (Err BadOctet) (pick c (Err Incomplete) (pick d (Ok g) (Err Incomplete)))) ≡ Ok f →
    (g ≡ f) × (d ≡ true)
past false false false true g f h = (cc, refl)
past true b c d g f h = let z : ◌≡◌ {A = ℕ} 0 1 = cc in absurd (omega arith)
past false true c d g f h = let z : ◌≡◌ {A = ℕ} 0 1 = cc in absurd (omega arith)
past false false true d g f h = let z : ◌≡◌ {A = ℕ} 0 1 = cc in absurd (omega arith)
past false false false false g f h = let z : ◌≡◌ {A = ℕ} 0 1 = cc in absurd (omega arith)

pub extension_after : (s : List ℕ) (at : ℕ) (f : Option Place) (m : ℕ) → extension_at s at ≡ Ok (f, m) → (at + 2 ≤ m) × (m ≤ length s)
unfolding extension_at octets_at
extension_after s at f m h =
    let q =
    past (not (room s at 1)) (eqb (octet s at) 0) (not (room s (at + 1) 1)) (room s (at + 2) (octet s (at + 1)))
    (at_place (at + 2) (octet s (at + 1)), at + 2 + octet s (at + 1)) (f, m) h in
    let l = leb-true (at + 2 + octet s (at + 1)) (length s) q.1 in
    let k : at + 2 + octet s (at + 1) ≡ m = ap (λ (x : Option Place × ℕ). x.1) q.0 in
    (omega arith, omega arith)

pub extensions_done : (k : ℕ) (s : List ℕ) (at n : ℕ) → length s ≤ at → extensions_from k s at n ≡ Ok n
unfolding extensions_from
extensions_done zero s at n h = refl
extensions_done (suc k) s at n h = simp (le-leb (length s) at h)

module _ (s : List ℕ) (at n : ℕ) (h : at < length s) (l : n ≤ at) where
  turns : length s - n ≡ suc (length s - (n + 1))
  turns = omega arith

  pub extensions_more : (f : Option Place) (m : ℕ) → extension_at s at ≡ Ok (f, m) →
      extensions_from (length s - n) s at n ≡ extensions_from (length s - (n + 1)) s m (n + 1)
  unfolding extensions_from
  extensions_more f m e = rw turns (simp (lt-leb (length s) at h, e))

  pub extensions_bad : (f : Fault) → extension_at s at ≡ Err f → extensions_from (length s - n) s at n ≡ Err f
  unfolding extensions_from
  extensions_bad f e = rw turns (simp (lt-leb (length s) at h, e))

-- ---- two faults (laws that docs/PORT.md names)

-- user data whose length is above 512 is 14, also where its octets are missing (named by docs/PORT.md)
module _ (s : List ℕ) (p : Bool) (at : ℕ) where
  pub data_long : not p ≡ false → at ≤ length s → 2 ≤ length s - at → (a b : ℕ) → a ≡ octet s at → b ≡ octet s (at + 1) →
      512 < a * 256 + b → Err BadLength ≡ data_at s p at
  unfolding data_at
  data_long e h l a b qa qb g =
      simp (not-false p e, le-leb (at + 2) (length s) (omega arith), lt-ltb 512 (number s at) (omega arith))

-- past the tests of octets 0 and 1, a field that the confirmation needs and that is not there is 15 (named by docs/PORT.md)
module _ (s : List ℕ) (h : length s ≤ 1024) (l : 1 ≤ length s) (e : octet s 0 / 2 % 2 ≡ 1 → ⊥) (k : 2 ≤ length s) (g : octet s 1 ≤ 4) (x : Bool)
    (q : x ≡ lacks (octet s 1) (bit (octet s 0) 32) (bit (octet s 0) 16) (bit (octet s 0) 8)) where
  pub open_lacking : x ≡ true → Err Lacking ≡ opened s
  unfolding opened
  open_lacking y =
      simp (le-ltb 1024 (length s) h, le-leb (0 + 1) (length s) (omega arith), ne_eqb (octet s 0 / 2 % 2) 1 e, le-leb (1 + 1) (length s) (omega arith), le-ltb 4 (octet s 1) g, sym q ∙ y)
