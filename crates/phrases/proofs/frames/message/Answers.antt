-- `phrases::frames::message` meets its contract. Closed by writing one word after the other.
use native.Mathlib.Omega.{arith}
use Rattle.phrases.specs.Frames.{message_words}
use Rattle.phrases.proofs.PageLaws.{then, within}
use Rattle.phrases.proofs.frames.message.Goals as goal

pub returns : goal.returns
unfolding message_words
returns c = within (then (then c.head.ensures c.names.ensures) c.rest.ensures) (omega arith)
