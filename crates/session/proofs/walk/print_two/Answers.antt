-- `session::walk::print_two` meets its contract. Closed by AnswerLaws: a line of two octets has room.
use Rattle.session.proofs.AnswerLaws.{print_two}
use borrow.Author.Rules.{rules}
use Rattle.session.proofs.walk.print_two.Goals as goal

pub returns : goal.returns
returns c = print_two _ _ _ _ _ _ (search rules) c.print.ensures.0 c.print.ensures.1
