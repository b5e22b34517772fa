-- `by_value::held::rest_octets` meets its contract. Closed by laws of ImageLaws and HeldLaws: sixteen octets.
use Rattle.image.proofs.ImageLaws.{numbers_are}
use Rattle.by_value.proofs.HeldLaws.{high, low}
use borrow.Author.Rules.{rules}
use Rattle.by_value.proofs.held.rest_octets.Goals as goal

pub returns : goal.returns
returns c =
    numbers_are c.args.u.now (high (search rules) c.to_be_bytes.ensures) (low (search rules) c.to_be_bytes.ensures) (high (search rules) c.to_be_bytes-2.ensures) (low (search rules) c.to_be_bytes-2.ensures)
    (high (search rules) c.to_be_bytes-3.ensures) (low (search rules) c.to_be_bytes-3.ensures) (high (search rules) c.to_be_bytes-4.ensures) (low (search rules) c.to_be_bytes-4.ensures)
    c.cut-2.ensures.value c.cut-3.ensures.value c.cut.ensures.value (high (search rules) c.to_be_bytes-5.ensures) (low (search rules) c.to_be_bytes-5.ensures)
