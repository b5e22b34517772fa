-- `words::Explainer::say` meets its contract. Closed by writing one word after the other.
use native.Mathlib.Omega.{arith}
use Rattle.phrases.proofs.PageLaws.{then, within}
use Rattle.words.specs.Feeding.{line_text}
use Rattle.words.proofs.Explainer.say.Goals as goal

pub returns : goal.returns
unfolding line_text
returns c = within (then (then c.margin.ensures c.words.ensures) c.say.ensures) (omega arith)
