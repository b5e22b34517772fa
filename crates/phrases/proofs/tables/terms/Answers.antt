-- `phrases::tables::terms` meets its contract. Closed by writing one word after the other.
use mathlib.Core.Path.{ap}
use native.Mathlib.Omega.{arith}
use Rattle.phrases.specs.Spelling.{decimal}
use Rattle.phrases.specs.Tables.{terms_words}
use Rattle.phrases.proofs.PageLaws.{then, within, writes_as}
use Rattle.phrases.proofs.tables.terms.Goals as goal

pub returns : goal.returns
unfolding terms_words
returns c =
    let class = then c.say.ensures (writes_as (ap decimal c.from.ensures) c.number.ensures) in
    let priority = then (then class c.say-2.ensures) (writes_as (ap decimal c.from-2.ensures) c.number-2.ensures) in
    within (then (then priority c.say-3.ensures) (writes_as c.rer.ensures.words c.say-4.ensures)) (omega (arith, c.rer.ensures.short))
