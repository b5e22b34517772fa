-- `phrases::frames::user_data` meets its contract. Closed by FrameLaws.
use mathlib.Core.Path.{sym, ◌∙◌}
use native.Mathlib.Omega.{arith}
use Rattle.phrases.proofs.FrameLaws.{data_some}
use Rattle.phrases.proofs.PageLaws.{then, within, writes_as}
use Rattle.phrases.proofs.frames.user_data.Goals as goal

pub returns-then-is_some : goal.returns-then-is_some
returns-then-is_some c =
    writes_as (data_some c.args.frame.now c.args.place (sym c.is_some.ensures ∙ c.if-is_some.true) c.part-part.ensures)
    (within (then (then (then c.say.ensures c.number.ensures) c.say-then-is_some.ensures) c.beginning.ensures) (omega arith))
