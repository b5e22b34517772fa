-- `turn::in_place::ArrayU8618Held::remove` meets its contract. The invariant: what is left of closing up is the whole of it (PlaceLaws, Closing).
use Rattle.turn.proofs.PlaceLaws.{closing_starts, closing_on, removed_by}
use Rattle.image.proofs.ReaderLaws.{eight_wait}
use mathlib.Core.Path.{refl}
use Rattle.image.specs.Image.{unit_of}
use borrow.Author.Rules.{rules}
use native.Mathlib.Omega.{arith}
use Rattle.turn.proofs.in_place.ArrayU8618Held.remove.Goals as goal

pub loop-i-init : goal.loop-i-init
loop-i-init c = closing_starts (unit_of c.args.self.now) _ c.count-last.ensures c.requires.waits c.requires.none_behind

pub loop-i-preserved : goal.loop-i-preserved
loop-i-preserved c = closing_on _ (unit_of c.loop-i.self) _ _ c.loop-i.i _ c.loop-i.invariant (search rules) (omega (arith, c.requires.few, c.count-last.ensures)) (eight_wait c.loop-i.self) (search rules) c.set_id.ensures

pub returns : goal.returns
returns c = removed_by _ (unit_of c.loop-i.self) _ _ c.loop-i.i _ c.loop-i.invariant (search rules) (omega (arith, c.requires.few, c.requires.waits, c.count-last.ensures)) (eight_wait c.loop-i.self) c.set_id-2.ensures c.count-last.ensures refl c.set_count.ensures
