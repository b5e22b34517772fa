-- `words::inputs::with_terms` meets its contract. Closed by writing one word after the other.
use mathlib.Core.Path.{ap}
use native.Mathlib.Omega.{arith}
use Rattle.phrases.specs.Frames.{frame_words}
use Rattle.words.specs.Lines.{with_terms}
use Rattle.phrases.proofs.PageLaws.{then, within, writes_as}
use Rattle.words.proofs.inputs.with_terms.Goals as goal

pub returns : goal.returns
unfolding with_terms
returns c =
    within (then (then (then c.say.ensures c.terms.ensures) c.say-2.ensures) (writes_as (ap frame_words c.after.ensures) c.frame_words.ensures)) (omega arith)
