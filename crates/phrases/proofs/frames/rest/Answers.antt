-- `phrases::frames::rest` meets its contract. Closed by writing one word after the other.
use native.Mathlib.Omega.{arith}
use Rattle.phrases.specs.Frames.{rest_words}
use Rattle.phrases.proofs.PageLaws.{then, within}
use Rattle.phrases.proofs.frames.rest.Goals as goal

pub returns : goal.returns
unfolding rest_words
returns c = within (then (then c.sender.ensures c.user_data.ensures) c.extensions.ensures) (omega arith)
