-- `session::answers::begin` meets its contract. Closed by AnswerLaws, one law for each way out.
use mathlib.Core.Path.{refl}
use Rattle.session.proofs.AnswerLaws.{begin_good, begin_refused}
use Rattle.session.proofs.answers.begin.Goals as goal

pub returns-in-Ok : goal.returns-in-Ok
returns-in-Ok c = begin_good _ c.in-Ok.is c.state.ensures

pub returns-in-Err : goal.returns-in-Err
returns-in-Err c = begin_refused _ c.in-Err.is c.print_refusal.ensures.0 c.print_refusal.ensures.1 refl
