-- `phrases::frames::answered` meets its contract. Closed by the way that is taken.
use mathlib.Core.Path.{ap, sym, ◌∙◌}
use native.Mathlib.Omega.{arith}
use Rattle.phrases.specs.Frames.{answered_in, answered_words}
use Rattle.phrases.proofs.FrameLaws.{answered_none}
use Rattle.phrases.proofs.PageLaws.{nothing, within, writes_as}
use Rattle.phrases.proofs.frames.answered.Goals as goal

pub returns-in-Ok : goal.returns-in-Ok
unfolding answered_words
returns-in-Ok c = within (writes_as (ap (answered_in c.args.frame.now) (sym c.in-Ok.is ∙ c.read.ensures)) c.number_at.ensures) (omega arith)

pub returns-in_default : goal.returns-in_default
returns-in_default c = within (writes_as (answered_none c.args.frame.now c.read.ensures c.in_default.is) (nothing c.args.page.now)) (omega arith)
