-- `session::answers::go_on` meets its contract. Closed by AnswerLaws: the lines of the turn, and then the state.
use Rattle.session.proofs.AnswerLaws.{says_on}
use Rattle.session.proofs.answers.go_on.Goals as goal

pub returns : goal.returns
returns c = says_on _ c.print_verdict-end.ensures.0 c.print_verdict-end.ensures.1 c.state.ensures
