-- `text::put_digits` meets its contract. The invariant: the digits that are left give, put now, what all of them give at the start (PrintLaws).
use Prim.Native.Nat.{◌+◌, ◌*◌}
use mathlib.Core.Path.{◌≡◌}
use lib.ListN.{drop}
use lib.Seq.{sets}
use Rattle.text.specs.Printing.{digits_of}
use Rattle.text.proofs.put_digits.Given as goal

abbrev pub invariant-loop-i : goal.invariant-loop-i
invariant-loop-i l = sets l.out (l.at + 2 * l.i) (digits_of (drop l.i l.line)) ≡ sets l.initial.out l.at (digits_of l.line)
