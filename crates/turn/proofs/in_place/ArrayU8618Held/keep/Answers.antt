-- `turn::in_place::ArrayU8618Held::keep` meets its contract. Closed by laws of PlaceLaws.
use Rattle.turn.proofs.PlaceLaws.{keeping_by}
use borrow.Author.Rules.{rules}
use Rattle.turn.proofs.in_place.ArrayU8618Held.keep.Goals as goal

pub returns : goal.returns
returns c = search (keeping_by, rules)
