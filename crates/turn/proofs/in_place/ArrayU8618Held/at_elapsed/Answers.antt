-- `turn::in_place::ArrayU8618Held::at_elapsed` meets its contract. Closed by laws of PlaceLaws.
use Rattle.turn.proofs.PlaceLaws.{advanced_by}
use borrow.Author.Rules.{rules}
use Rattle.turn.proofs.in_place.ArrayU8618Held.at_elapsed.Goals as goal

pub returns : goal.returns
returns c = search (advanced_by, rules)
