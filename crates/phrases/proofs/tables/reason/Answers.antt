-- `phrases::tables::reason` meets its contract. Closed by writing one word after the other.
use mathlib.Core.Path.{ap}
use native.Mathlib.Omega.{arith}
use Rattle.phrases.specs.Spelling.{decimal}
use Rattle.phrases.specs.Tables.{reason_words}
use Rattle.phrases.proofs.PageLaws.{then, within, writes_as}
use Rattle.phrases.proofs.tables.reason.Goals as goal

pub returns : goal.returns
unfolding reason_words
returns c =
    within
    (then (then (then c.say.ensures (writes_as (ap decimal c.from.ensures) c.number.ensures)) c.say-2.ensures) (writes_as c.reason_meaning.ensures.words c.say-3.ensures))
    (omega (arith, c.reason_meaning.ensures.short))
