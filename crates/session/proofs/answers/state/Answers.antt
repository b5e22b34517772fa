-- `session::answers::state` meets its contract. Closed by what was read and printed.
use Rattle.session.proofs.AnswerLaws.{says_state}
use Rattle.session.proofs.answers.state.Goals as goal

pub returns : goal.returns
returns c = says_state _ _ c.state.ensures c.print_two.ensures.0 c.print_two.ensures.1
