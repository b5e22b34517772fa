-- `octets::put` meets its contract. The invariant: the octets still to be put give, put now, what the whole gives at the start (Puts).
use Prim.Native.Nat.{◌+◌}
use mathlib.Core.Path.{◌≡◌}
use lib.ListN.{drop}
use lib.Seq.{sets}
use Rattle.octets.proofs.put.Given as goal

abbrev pub invariant-loop-i : goal.invariant-loop-i
invariant-loop-i l = sets l.out (l.at + l.i) (drop l.i l.src) ≡ sets l.initial.out l.at l.src
