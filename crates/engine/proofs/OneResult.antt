-- Each public contract leaves one answer, one image and one content of the lent buffer. Closed by the equalities that it gives.
use mathlib.Core.Path.{sym, ◌∙◌}
use Rattle.octets.specs.Contract.{Leaves}
use Rattle.engine.proofs.handle.Reads as handle
use Rattle.engine.proofs.setup.Reads as setup

pub one_handle : Leaves handle.Post (λ κs r e. r)
one_handle κs a x y e f p q = p.verdict ∙ sym q.verdict

pub one_handle_image : Leaves handle.Post (λ κs r e. e.0.now)
one_handle_image κs a x y e f p q = p.image ∙ sym q.image

pub one_handle_buffer : Leaves handle.Post (λ κs r e. e.1.1.0.now)
one_handle_buffer κs a x y e f p q = p.buffer ∙ sym q.buffer

pub one_setup : Leaves setup.Post (λ κs r e. r)
one_setup κs a x y e f p q = p.verdict ∙ sym q.verdict

pub one_setup_image : Leaves setup.Post (λ κs r e. e.0.now)
one_setup_image κs a x y e f p q = p.image ∙ sym q.image
