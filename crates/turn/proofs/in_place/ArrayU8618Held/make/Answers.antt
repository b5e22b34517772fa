-- `turn::in_place::ArrayU8618Held::make` meets its contract. Closed by laws of MadeLaws.
use Rattle.turn.proofs.MadeLaws.{laid_is}
use Rattle.turn.proofs.PlaceLaws.{part_filled}
use mathlib.Core.Path.{refl}
use borrow.Author.Rules.{rules}
use Rattle.turn.proofs.in_place.ArrayU8618Held.make.Goals as goal

pub returns : goal.returns
returns c = laid_is _ _ _ _ c.args.name c.args.self.now _ _ _ _ _ (search rules) (search rules) c.rest_of-rest.ensures c.put.ensures (part_filled _ 32 16 16 (c.fill.ensures.after (search rules)) refl (search rules)) (part_filled _ 48 554 554 (c.fill-2.ensures.after (search rules)) refl (search rules)) c.put-2.ensures c.requires
