-- `turn::lines::put_answers` meets its contract. Closed by laws of PenLaws.
use mathlib.Core.List.{map}
use Prim.Native.Nat.{◌≤◌, ◌+◌, ◌*◌}
use lib.ListN.{take}
use Rattle.said.specs.Pens.{Laid}
use Rattle.said.specs.Notes.{answer_line}
use Rattle.turn.proofs.lines.put_answers.Given as goal

abbrev pub invariant-loop-i : goal.invariant-loop-i
invariant-loop-i g l = (l.next.at ≤ l.initial.next.at + 42 * l.i) × (l.next.lines ≤ l.initial.next.lines + l.i) × (Laid l.initial.out l.initial.next (map (answer_line l.say l.name) (take l.i (g.H.Seen.unit l.u).waiting)) l.out l.next)
