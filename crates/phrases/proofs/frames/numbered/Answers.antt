-- `phrases::frames::numbered` meets its contract. Closed by the way that is taken.
use mathlib.Core.Path.{ap, sym}
use Rattle.phrases.specs.Frames.{numbered}
use Rattle.phrases.proofs.PageLaws.{then, writes_as}
use Rattle.phrases.proofs.frames.numbered.Goals as goal

pub returns-in-Some : goal.returns-in-Some
returns-in-Some c = writes_as (ap (numbered c.args.word.now) (sym c.in-Some.is)) (then c.say.ensures c.number.ensures)
