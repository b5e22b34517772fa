-- `by_value::held::unit_in` meets its contract. Closed by ImageLaws: each part that was read is the unit's.
use Rattle.image.specs.Image.{unit_of, waiting_in}
use Rattle.image.proofs.ImageLaws.{block_is, unit_is, waiting_is}
use mathlib.Core.Path.{refl}
use lib.ListN.{drop, length-drop}
use lib.Seq.{length-take-le}
use native.Mathlib.Omega.{arith}
use Rattle.by_value.proofs.held.unit_in.Goals as goal

pub returns : goal.returns
unfolding unit_of waiting_in
returns c =
    rw c.state.ensures
    (unit_is c.args.image.now c.copy_from_slice.ensures.after
    (waiting_is c.args.image.now c.id.ensures c.id-2.ensures c.id-3.ensures c.id-4.ensures c.id-5.ensures c.id-6.ensures c.id-7.ensures c.id-8.ensures)
    (block_is 554 _ _ _ refl (length-take-le 554 (drop 48 c.args.image.now) (omega (arith, length-drop 48 c.args.image.now))) c.put.ensures) c.terms.ensures c.start.ensures c.end.ensures c.inactivity.ensures c.elapsed.ensures c.letters.ensures c.count.ensures c.octets.ensures)
