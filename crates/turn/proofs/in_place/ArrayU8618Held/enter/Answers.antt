-- `turn::in_place::ArrayU8618Held::enter` meets its contract. Closed by laws of PlaceLaws.
use Rattle.turn.proofs.PlaceLaws.{entered_by}
use borrow.Author.Rules.{rules}
use Rattle.turn.proofs.in_place.ArrayU8618Held.enter.Goals as goal

pub returns : goal.returns
returns c = search (entered_by, rules)
