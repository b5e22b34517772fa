-- `session::walk::print_refusal` meets its contract. Closed by AnswerLaws: the number of a refusal.
use Rattle.session.proofs.AnswerLaws.{print_refusal}
use Rattle.session.proofs.walk.print_refusal.Goals as goal

pub returns : goal.returns
returns c = print_refusal c.args.refusal c.from.ensures c.print_two.ensures
