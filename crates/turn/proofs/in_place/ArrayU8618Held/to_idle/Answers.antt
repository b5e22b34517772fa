-- `turn::in_place::ArrayU8618Held::to_idle` meets its contract. Closed by laws of PlaceLaws.
use Rattle.turn.proofs.PlaceLaws.{cleared_by}
use borrow.Author.Rules.{rules}
use Rattle.turn.proofs.in_place.ArrayU8618Held.to_idle.Goals as goal

pub returns : goal.returns
returns c = search (cleared_by, rules)
