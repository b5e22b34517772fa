-- `turn::message::Message::read` meets its contract. Closed by `reads_made` of Views.
use Rattle.book.proofs.Views.{reads_made}
use native.Mathlib.Omega.{arith}
use Rattle.turn.proofs.message.Message.read.Goals as goal

pub invariant_of-result : goal.invariant_of-result
invariant_of-result c = record { reads = reads_made c.args.frame.now c.in_ok-header.field-0 c.read.ensures c.in_ok-header.was (λ j. omega (arith, c.type_inv.frame j)) }
