-- `engine::setup` meets its contract. Closed by laws of Entry, one for each way out.
use Rattle.engine.proofs.Entry.{none_set, was_set}
use borrow.Author.Rules.{rules}
use Rattle.engine.proofs.setup.Goals as goal

pub returns-in_default : goal.returns-in_default
returns-in_default c = none_set _ _ _ _ _ c.in_default.ensures.cases

pub returns : goal.returns
returns c = was_set _ _ _ _ _ c.in-Some.ensures.cases.long (search rules) (search rules) c.setup.ensures
