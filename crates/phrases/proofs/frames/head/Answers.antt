-- `phrases::frames::head` meets its contract. Closed by writing one word after the other.
use native.Mathlib.Omega.{arith}
use Rattle.phrases.specs.Frames.{head_words}
use Rattle.phrases.proofs.PageLaws.{then, within, writes_as}
use Rattle.phrases.proofs.frames.head.Goals as goal

pub returns : goal.returns
unfolding head_words
returns c =
    within (then (then (writes_as c.shot.ensures.words c.say.ensures) (writes_as c.confirmation.ensures.words c.say-2.ensures)) c.message_type.ensures)
    (omega (arith, c.shot.ensures.short, c.confirmation.ensures.short))
