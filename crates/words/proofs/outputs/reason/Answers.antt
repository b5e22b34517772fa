-- `words::outputs::reason` meets its contract. Closed by writing one word after the other.
use native.Mathlib.Omega.{arith}
use Rattle.phrases.proofs.PageLaws.{then, within}
use Rattle.words.proofs.outputs.reason.Goals as goal

pub returns : goal.returns
returns c = within (then c.say.ensures c.reason.ensures) (omega arith)
