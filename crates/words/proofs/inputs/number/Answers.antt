-- `words::inputs::number` meets its contract. Closed by writing one word after the other.
use mathlib.Core.Path.{ap}
use Rattle.phrases.specs.Spelling.{decimal}
use Rattle.phrases.proofs.PageLaws.{then, writes_as}
use Rattle.words.proofs.inputs.number.Goals as goal

pub returns : goal.returns
returns c = then c.say.ensures (writes_as (ap decimal c.from.ensures) c.number.ensures)
