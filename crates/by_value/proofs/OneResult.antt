-- Each public contract leaves one answer, one image, and one content of the lent buffer. Closed by the equalities that it gives.
use mathlib.Core.Path.{sym, ◌∙◌}
use Rattle.octets.specs.Contract.{Leaves}
use Rattle.by_value.proofs.handle.Reads as handle
use Rattle.by_value.proofs.stelquorum_by_value.Reads as call

pub one_handle : Leaves handle.Post (λ κs r e. r)
one_handle κs a x y e f p q = p.verdict ∙ sym q.verdict

pub one_handle_image : Leaves handle.Post (λ κs r e. e.0.now)
one_handle_image κs a x y e f p q = p.image ∙ sym q.image

pub one_handle_buffer : Leaves handle.Post (λ κs r e. e.1.1.0.now)
one_handle_buffer κs a x y e f p q = p.buffer ∙ sym q.buffer

pub one_call : Leaves call.Post (λ κs r e. r)
one_call κs a x y e f p q = p.number ∙ sym q.number

pub one_call_image : Leaves call.Post (λ κs r e. e.0.now)
one_call_image κs a x y e f p q = p.image ∙ sym q.image

pub one_call_buffer : Leaves call.Post (λ κs r e. e.1.1.0.now)
one_call_buffer κs a x y e f p q = p.buffer ∙ sym q.buffer
