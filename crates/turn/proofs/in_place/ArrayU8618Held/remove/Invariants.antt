-- `turn::in_place::ArrayU8618Held::remove` meets its contract. The invariant: what is left of closing up is the whole of it (PlaceLaws, Closing).
use Rattle.turn.proofs.PlaceLaws.{Closing}
use Rattle.image.specs.Image.{unit_of}
use Rattle.turn.proofs.in_place.ArrayU8618Held.remove.Given as goal

abbrev pub invariant-loop-i : goal.invariant-loop-i
invariant-loop-i l = Closing (unit_of l.initial.self) (unit_of l.self) l.place l.last l.i
