-- `state::turns::taken` meets its contract. Closed by Table: the rule is tested at every entry of the table by one computation.
use Rattle.book.specs.Turns.{takes}
use Rattle.state.proofs.Table.{table}
use borrow.Author.Rules.{rules}
use Rattle.state.proofs.turns.taken.Goals as goal

pub returns-then-column-lt11 : goal.returns-then-column-lt11
unfolding takes
returns-then-column-lt11 c = search (table takes 11, rules)
