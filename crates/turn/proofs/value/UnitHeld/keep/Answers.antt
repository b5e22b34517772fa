-- `turn::value::UnitHeld::keep` meets its contract: a frame put at the front of an array of 0 (Moved: `padded-sets`).
use mathlib.Core.Path.{ap, ◌∙◌}
use lib.Seq.{sets}
use Rattle.turn_laws.specs.Moves.{keeping}
use Rattle.turn_laws.proofs.Moved.{padded-sets}
use Rattle.turn.proofs.value.UnitHeld.keep.Goals as goal

pub returns : goal.returns
unfolding keeping
returns c = rw (c.put.ensures ∙ ap (λ l. sets l 0 c.args.frame.now) c.requires.blank ∙ padded-sets 554 c.args.frame.now c.requires.short)
