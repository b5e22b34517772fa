-- Laws of a frame in words: a part that is present, and a frame or nothing. Closed by `rw` with what was read.
use Rattle.std.specs.Prelude.{None, Option, Some, Result, Err, is_some}
use Prim.Native.Nat.{ℕ}
use mathlib.Core.Path.{◌≡◌}
use mathlib.Core.Bool.{true}
use mathlib.Core.List.{List, [], ◌++◌}
use native.Mathlib.Omega.{arith}
use borrow.Author.Tests.{eq-eqb, ne_eqb}
use lib.ListN.{length}
use Rattle.frame.specs.Reading.{reading_of}
use Rattle.frame.specs.Decoding.{part_at}
use Rattle.frame.specs.declared.Fault.{Fault}
use Rattle.frame.specs.declared.Place.{Place}
use Rattle.frame.specs.declared.Whole.{Whole}
use Rattle.phrases.specs.Spelling.{spelled, decimal, beginning}
use Rattle.phrases.specs.Frames.{data_words, frame_words, frame_or_nothing, answered_words}

pub data_some : (s : List ℕ) (p : Option Place) {q : List ℕ} → is_some p ≡ true → q ≡ part_at s p
    → spelled ", user data of length " ++ decimal (length q) ++ spelled ": " ++ beginning q ≡ data_words s p
data_some s (Some p) h e = rw e
data_some s None h e = let z : ◌≡◌ {A = ℕ} 0 1 = cc in absurd (omega arith)

pub frame_absent : (s : List ℕ) → length s ≡ 0 → spelled "no frame" ≡ frame_or_nothing s
unfolding frame_or_nothing
frame_absent s h = rw (eq-eqb (length s) 0 h)

pub frame_present : (s : List ℕ) → (length s ≡ 0 → ⊥) → frame_words s ≡ frame_or_nothing s
unfolding frame_or_nothing
frame_present s h = rw (ne_eqb (length s) 0 h)

-- a frame with a fault answers nothing
pub answered_none : (s : List ℕ) {r : Result Whole Fault} {f : Fault} → r ≡ reading_of s → r ≡ Err f → [] ≡ answered_words s
unfolding answered_words
answered_none s e q = rw (← e, q)
