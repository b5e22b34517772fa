-- `turn::in_place::ArrayU8618Held::append` meets its contract. Closed by laws of PlaceLaws.
use Rattle.turn.proofs.PlaceLaws.{appended_by}
use borrow.Author.Rules.{rules}
use Rattle.turn.proofs.in_place.ArrayU8618Held.append.Goals as goal

pub returns : goal.returns
returns c = search (appended_by, rules)
