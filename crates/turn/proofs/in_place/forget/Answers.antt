-- `turn::in_place::forget` meets its contract. Closed by laws of PlaceLaws.
use Rattle.turn.proofs.PlaceLaws.{forgot}
use borrow.Author.Rules.{rules}
use Rattle.turn.proofs.in_place.forget.Goals as goal

pub returns : goal.returns
returns c = search (forgot, rules)
