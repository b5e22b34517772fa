-- `phrases::frames::names` meets its contract. Closed by writing one word after the other.
use native.Mathlib.Omega.{arith}
use Rattle.phrases.specs.Frames.{names_words}
use Rattle.phrases.proofs.PageLaws.{then, within}
use Rattle.phrases.proofs.frames.names.Goals as goal

pub returns : goal.returns
unfolding names_words
returns c = within (then c.number_at.ensures c.number_at-2.ensures) (omega arith)
