-- `phrases::frames::frame_words` meets its contract. Closed by the way that is taken.
use mathlib.Core.Path.{ap, sym, ◌∙◌}
use native.Mathlib.Omega.{arith}
use Rattle.phrases.specs.Frames.{reading_words, frame_words}
use Rattle.phrases.proofs.PageLaws.{within, writes_as}
use Rattle.phrases.proofs.frames.frame_words.Goals as goal

pub returns-in-Ok : goal.returns-in-Ok
unfolding frame_words
returns-in-Ok c = writes_as (ap (reading_words c.args.frame.now) (sym c.in-Ok.is ∙ c.read.ensures)) c.message.ensures

pub returns-in-Err : goal.returns-in-Err
unfolding frame_words
returns-in-Err c = within (writes_as (ap (reading_words c.args.frame.now) (sym c.in-Err.is ∙ c.read.ensures)) c.fault.ensures) (omega arith)
