-- `by_value::held::put_unit` meets its contract. Closed by laws of ImageLaws and HeldLaws: four parts, one after the other.
use Rattle.image.proofs.ImageLaws.{written}
use Rattle.by_value.proofs.HeldLaws.{pair_of, ids_are}
use borrow.Author.Rules.{rules}
use Rattle.by_value.proofs.held.put_unit.Goals as goal

pub returns : goal.returns
returns c =
    let ids = ids_are c.args.u.now.waiting c.as_flattened.ensures.value (pair_of (search rules) c.to_be_bytes.ensures) (pair_of (search rules) c.to_be_bytes-2.ensures) (pair_of (search rules) c.to_be_bytes-3.ensures) (pair_of (search rules) c.to_be_bytes-4.ensures) (pair_of (search rules) c.to_be_bytes-5.ensures) (pair_of (search rules) c.to_be_bytes-6.ensures) (pair_of (search rules) c.to_be_bytes-7.ensures) (pair_of (search rules) c.to_be_bytes-8.ensures) in
    written c.args.u.now _ _ _ _ _ _ _ (search rules) (search rules) (search rules) ids c.rest_octets.ensures c.put.ensures c.put-2.ensures c.put-3.ensures c.put-4.ensures
