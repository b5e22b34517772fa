-- The public contract leaves one result. Closed by the equality that it gives.
use mathlib.Core.Path.{sym, ◌∙◌}
use Rattle.octets.specs.Contract.{Leaves}
use Rattle.image_sound.proofs.sound.Reads as sound-reads

pub one_sound : Leaves sound-reads.Post (λ κs r e. r)
one_sound κs a x y e f p q = p.0 ∙ sym q.0
