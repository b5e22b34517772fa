-- `phrases::frames::frame_or_nothing` meets its contract. Closed by FrameLaws, one law for each way out.
use borrow.Author.Rules.{rules}
use native.Mathlib.Omega.{arith}
use Rattle.phrases.proofs.FrameLaws.{frame_absent, frame_present}
use Rattle.phrases.proofs.PageLaws.{within, writes_as}
use Rattle.phrases.proofs.frames.frame_or_nothing.Goals as goal

pub returns-then-is_empty : goal.returns-then-is_empty
returns-then-is_empty c = within (writes_as (frame_absent c.args.frame.now (search rules)) c.say.ensures) (omega arith)

pub returns-else-is_empty : goal.returns-else-is_empty
returns-else-is_empty c = writes_as (frame_present c.args.frame.now (search rules)) c.frame_words.ensures
