-- `turn::in_place::rest_of` meets its contract. Closed by laws of MadeLaws.
use Rattle.turn.proofs.MadeLaws.{rest_is}
use native.Mathlib.Omega.{arith}
use borrow.Author.Rules.{rules}
use Rattle.turn.proofs.in_place.rest_of.Goals as goal

pub returns : goal.returns
returns c = rest_is _ _ _ _ (search rules) (search rules) (search rules) (search rules) (search rules) (search rules) (omega arith)
