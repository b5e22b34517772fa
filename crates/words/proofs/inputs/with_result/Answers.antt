-- `words::inputs::with_result` meets its contract. Closed by writing one word after the other.
use native.Mathlib.Omega.{arith}
use Rattle.words.specs.Lines.{with_result}
use Rattle.phrases.proofs.PageLaws.{then, within, writes_as}
use Rattle.words.proofs.inputs.with_result.Goals as goal

pub returns : goal.returns
unfolding with_result
returns c = within (then c.say.ensures (writes_as c.accepted.ensures.words c.say-2.ensures)) (omega (arith, c.accepted.ensures.short))
