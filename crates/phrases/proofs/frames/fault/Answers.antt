-- `phrases::frames::fault` meets its contract. Closed by writing one word after the other.
use mathlib.Core.Path.{ap, ◌∙◌}
use native.Mathlib.Omega.{arith}
use Rattle.phrases.specs.Spelling.{decimal}
use Rattle.phrases.specs.Tables.{fault_meaning}
use Rattle.phrases.specs.Frames.{fault_words}
use Rattle.phrases.proofs.PageLaws.{then, within, writes_as}
use Rattle.phrases.proofs.frames.fault.Goals as goal

pub returns : goal.returns
unfolding fault_words
returns c =
    let number = writes_as (ap decimal (c.from.ensures ∙ c.from-n.ensures)) c.number.ensures in
    let meaning = writes_as (c.fault_meaning.ensures.words ∙ ap fault_meaning c.from-n.ensures) c.say-3.ensures in
    within (then (then (then c.say.ensures number) c.say-2.ensures) meaning) (omega (arith, c.fault_meaning.ensures.short))
