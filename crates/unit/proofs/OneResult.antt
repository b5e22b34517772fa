-- Each public contract of this crate leaves one result: unit, answer, and every octet of the lent buffer, refusals included. Closed by the two
-- equalities that it gives; the generated contract is `Reads.Post`, so this can't drift from the source.
use mathlib.Core.Path.{sym, ◌∙◌}
use Rattle.octets.specs.Contract.{Leaves}
use Rattle.unit.proofs.handle.Reads as handle
use Rattle.unit.proofs.setup.Reads as setup
use Rattle.unit.proofs.user_data.Reads as user_data

pub one_handle : Leaves handle.Post (λ κs r e. r)
one_handle κs a x y e f p q = p.result ∙ sym q.result

pub one_handle_buffer : Leaves handle.Post (λ κs r e. e.1.1.0.now)
one_handle_buffer κs a x y e f p q = p.buffer ∙ sym q.buffer

pub one_setup : Leaves setup.Post (λ κs r e. r)
one_setup κs a x y e f p q = p ∙ sym q

pub one_user_data : Leaves user_data.Post (λ κs r e. r.now)
one_user_data κs a x y e f p q = p ∙ sym q
