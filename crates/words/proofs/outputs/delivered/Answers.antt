-- `words::outputs::delivered` meets its contract. Closed by writing one word after the other.
use mathlib.Core.Path.{ap}
use native.Mathlib.Omega.{arith}
use Rattle.phrases.specs.Frames.{frame_words, answered_words}
use Rattle.words.specs.Lines.{delivery_line}
use Rattle.phrases.proofs.PageLaws.{then, within, writes_as}
use Rattle.words.proofs.outputs.delivered.Goals as goal

pub returns : goal.returns
unfolding delivery_line
returns c =
    let answered = then c.say.ensures (writes_as (ap answered_words c.after-frame.ensures) c.answered.ensures) in
    let how = then (then answered c.say-2.ensures) (writes_as c.delivery.ensures.words c.say-3.ensures) in
    within (then (then how c.say-4.ensures) (writes_as (ap frame_words c.after-frame.ensures) c.frame_words.ensures)) (omega (arith, c.delivery.ensures.short))
