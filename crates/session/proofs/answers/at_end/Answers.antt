-- `session::answers::at_end` meets its contract. Closed by AnswerLaws, one law for each phase.
use Rattle.session.proofs.AnswerLaws.{end_first, end_open, end_shut, end_stopped}
use Rattle.session.proofs.answers.at_end.Goals as goal

pub returns-in-First : goal.returns-in-First
returns-in-First c = end_first _ c.args.left _ c.in-First.is c.print_refusal.ensures.0 c.print_refusal.ensures.1

pub returns-in-Running : goal.returns-in-Running
returns-in-Running c = end_open _ c.args.left c.in-Running.is c.if-left.true c.go_on.ensures

pub returns-in_default : goal.returns-in_default
returns-in_default c = end_shut _ _ c.args.left _ c.in-Running.is c.if-left.false

pub returns-in_default-2 : goal.returns-in_default-2
returns-in_default-2 c = end_stopped _ _ c.args.left _ c.in_default.is
