-- Each public contract leaves one answer, one image or block, and one content of the lent buffer. Closed by the equalities that it gives.
use mathlib.Core.Path.{sym, ◌∙◌}
use Rattle.octets.specs.Contract.{Leaves}
use Rattle.embed.proofs.stelquorum_setup.Reads as setup
use Rattle.embed.proofs.stelquorum_event.Reads as event
use Rattle.embed.proofs.stelquorum_read.Reads as read
use Rattle.embed.proofs.stelquorum_write.Reads as write

pub one_setup : Leaves setup.Post (λ κs r e. r)
one_setup κs a x y e f p q = p.number ∙ sym q.number

pub one_setup_image : Leaves setup.Post (λ κs r e. e.0.now)
one_setup_image κs a x y e f p q = p.image ∙ sym q.image

pub one_event : Leaves event.Post (λ κs r e. r)
one_event κs a x y e f p q = p.number ∙ sym q.number

pub one_event_image : Leaves event.Post (λ κs r e. e.0.now)
one_event_image κs a x y e f p q = p.image ∙ sym q.image

pub one_event_buffer : Leaves event.Post (λ κs r e. e.1.1.0.now)
one_event_buffer κs a x y e f p q = p.buffer ∙ sym q.buffer

pub one_read : Leaves read.Post (λ κs r e. r)
one_read κs a x y e f p q = p.number ∙ sym q.number

pub one_read_block : Leaves read.Post (λ κs r e. e.1.0.now)
one_read_block κs a x y e f p q = p.block ∙ sym q.block

pub one_write : Leaves write.Post (λ κs r e. r)
one_write κs a x y e f p q = p.number ∙ sym q.number

pub one_write_buffer : Leaves write.Post (λ κs r e. e.1.1.1.1.1.1.1.0.now)
one_write_buffer κs a x y e f p q = p.buffer ∙ sym q.buffer
