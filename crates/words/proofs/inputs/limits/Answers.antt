-- `words::inputs::limits` meets its contract. Closed by writing one word after the other.
use native.Mathlib.Omega.{arith}
use Rattle.words.specs.Lines.{limits_words}
use Rattle.phrases.proofs.PageLaws.{then, within}
use Rattle.words.proofs.inputs.limits.Goals as goal

pub returns : goal.returns
unfolding limits_words
returns c = within (then (then c.number.ensures c.number-2.ensures) c.number-3.ensures) (omega arith)
