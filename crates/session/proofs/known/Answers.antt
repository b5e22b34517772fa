-- `session::known` meets its contract. Closed by what the checker says of a lent block's octets.
use native.Mathlib.Omega.{arith}
use Rattle.session.proofs.known.Goals as goal

pub returns : goal.returns
returns c = record { small = λ i. omega (arith, c.type_inv.block i) }
