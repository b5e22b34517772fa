-- `turn::stores::clear_ids` meets its contract. Closed by laws of StoreLaws and PlaceLaws.
use Rattle.image.proofs.StoreLaws.{ids_cleared}
use Rattle.turn.proofs.PlaceLaws.{part_filled}
use mathlib.Core.Path.{refl}
use borrow.Author.Rules.{rules}
use native.Mathlib.Omega.{arith}
use Rattle.turn.proofs.stores.clear_ids.Goals as goal

pub returns : goal.returns
returns c = ids_cleared c.args.image.now (search rules) (part_filled c.args.image.now 32 16 16 (c.fill.ensures.after (search rules)) refl (omega arith))
