-- `words::outputs::refused` meets its contract. Closed by writing one word after the other.
use mathlib.Core.Path.{ap}
use native.Mathlib.Omega.{arith}
use Rattle.phrases.specs.Spelling.{decimal}
use Rattle.phrases.proofs.PageLaws.{then, within, writes_as}
use Rattle.words.proofs.outputs.refused.Goals as goal

pub returns : goal.returns
returns c =
    within
    (then (then (then c.say.ensures (writes_as (ap decimal c.from.ensures) c.number.ensures)) c.say-2.ensures) (writes_as c.refusal_meaning.ensures.words c.say-3.ensures))
    (omega (arith, c.refusal_meaning.ensures.short))
