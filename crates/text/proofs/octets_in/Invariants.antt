-- `text::octets_in` meets its contract. The invariant: the octets of the pairs that are left give, put now, what all of them give at the start (LineLaws: `Begun`).
use Rattle.text.proofs.LineLaws.{Begun}
use Rattle.text.proofs.octets_in.Given as goal

abbrev pub invariant-loop-i : goal.invariant-loop-i
invariant-loop-i l = Begun l.s l.initial.event l.event l.i
