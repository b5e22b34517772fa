-- `turn::stores::put_kept` meets its contract. Closed by laws of StoreLaws.
use Rattle.image.proofs.StoreLaws.{kept_stored}
use borrow.Author.Rules.{rules}
use Rattle.turn.proofs.stores.put_kept.Goals as goal

pub returns : goal.returns
returns c = let a = c.args in kept_stored a.image.now (search rules) a.frame.now (search rules) c.put.ensures
