-- `session::answers::set_up` meets its contract. Closed by AnswerLaws, one law for each way out.
use native.Mathlib.Omega.{arith}
use borrow.Author.Rules.{rules}
use Rattle.session.proofs.AnswerLaws.{begins_as, setup_none, setup_short, setup_is, setup_other}
use Rattle.session.proofs.answers.set_up.Goals as goal
use Rattle.session.proofs.answers.set_up.Goals.{in_default-via-then-event-lt7, in_default-via-else-event-lt7+in_default-1}

pub returns-in-0 : goal.returns-in-0
returns-in-0 c = setup_is c.args.event.now _ _ _ c.told-unit c.in-0.len_at_least (omega arith) (omega arith) (omega arith) (omega arith) c.setup.ensures

pub returns-in_default : goal.returns-in_default
returns-in_default c =
    elim c.in_default.branch [
      | in_default-via-then-event-lt7 w ↦ begins_as (setup_short _ (search rules)) (setup_none c.told-unit c.setup-in_default.ensures)
      | in_default-via-else-event-lt7+in_default-1 w ↦ begins_as (setup_other _ (search rules) (λ e. omega arith)) (setup_none c.told-unit c.setup-in_default.ensures)
    ]
