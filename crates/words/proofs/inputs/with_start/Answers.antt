-- `words::inputs::with_start` meets its contract. Closed by writing one word after the other.
use mathlib.Core.Path.{ap}
use native.Mathlib.Omega.{arith}
use Rattle.phrases.specs.Frames.{frame_or_nothing}
use Rattle.words.specs.Lines.{with_start}
use Rattle.phrases.proofs.PageLaws.{then, within, writes_as}
use Rattle.words.proofs.inputs.with_start.Goals as goal

pub returns : goal.returns
unfolding with_start
returns c =
    within (then (then (then c.say.ensures c.terms.ensures) c.say-2.ensures) (writes_as (ap frame_or_nothing c.after.ensures) c.frame_or_nothing.ensures)) (omega arith)
