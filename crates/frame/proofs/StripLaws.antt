-- Stripping, where it writes. Closed by `rw` with the reader's answer.
use Rattle.std.specs.Prelude.{Result, Ok}
use Prim.Native.Nat.{ℕ, ◌≤◌, ◌<◌}
use native.Mathlib.Omega.{arith}
use mathlib.Core.List.{List}
use mathlib.Core.Path.{◌≡◌, sym, ap, ◌∙◌}
use lib.ListN.{length}
use lib.Seq.{sets}
use borrow.Author.Tests.{le-ltb}
use Rattle.frame.specs.declared.Fault.{Fault}
use Rattle.frame.specs.declared.Whole.{Whole}
use Rattle.frame.specs.Reading.{octet, reading_of}
use Rattle.frame.specs.Writing.{Wrote}
use Rattle.frame.specs.Stripping.{bare_to, bare, strip_refusal}
use Rattle.frame.proofs.BareLaws.{bare-length}
use Rattle.frame.proofs.Inversion.{known}

module _ (s b : List ℕ) where
  module _ (h : 1024 ≤ length b) (r : Result Whole Fault) (q : r ≡ reading_of s) where
    pub strip_all : (w : Whole) → r ≡ Ok w → ((i : ℕ) → octet s i < 256) → (a : List ℕ) → a ≡ sets b 0 (bare_to s w.header.end) →
        Wrote (strip_refusal (length b) s) (bare s) b a (Ok w.header.end)
    unfolding strip_refusal bare
    strip_all w e small a g =
        let k = known s small w (sym q ∙ e) in
        let l = bare-length s w.header.end (omega arith) k.within in
        rw (le-ltb (length b) 1024 h, sym q ∙ e) (record { answers = ap Ok (sym l); leaves = g })
