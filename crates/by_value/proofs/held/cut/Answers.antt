-- `by_value::held::cut` meets its contract. Closed by ImageLaws, one law for each way out.
use Rattle.image.proofs.ImageLaws.{cut_over, cut_within}
use borrow.Author.Rules.{rules}
use Rattle.by_value.proofs.held.cut.Goals as goal

pub returns-then-from-n-clause-value : goal.returns-then-from-n-clause-value
returns-then-from-n-clause-value c = search (cut_over, rules)

pub returns-else-from-n-clause-value : goal.returns-else-from-n-clause-value
returns-else-from-n-clause-value c = search (cut_within, rules)
