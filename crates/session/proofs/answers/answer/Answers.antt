-- `session::answers::answer` meets its contract. Closed by AnswerLaws, one law for each phase.
use mathlib.Core.Path.{refl}
use Rattle.text.specs.Reading.{held_in}
use Rattle.session.proofs.AnswerLaws.{answer_first, answer_event, answer_none, answer_stopped}
use Rattle.session.proofs.answers.answer.Goals as goal

pub returns-in-First-default : goal.returns-in-First-default
returns-in-First-default c = answer_first _ _ c.args.event _ _ _ c.in-First-default.is-0 refl c.unwrap_or.ensures c.set_up.ensures c.begin.ensures

pub returns-in-Running-Some : goal.returns-in-Running-Some
returns-in-Running-Some c = answer_event _ _ c.args.event _ _ _ c.in-Running-Some.is-0 c.in-Running-Some.is-1 c.turn.ensures c.go_on.ensures

pub returns-in-Running-None : goal.returns-in-Running-None
returns-in-Running-None c = answer_none _ c.args.event c.in-Running-None.is-0 c.in-Running-None.is-1 c.go_on-in-Running-None.ensures

pub returns-in-Stopped-default : goal.returns-in-Stopped-default
returns-in-Stopped-default c = answer_stopped _ c.args.unit.now (held_in c.args.event) _ c.in-Stopped-default.is-0
