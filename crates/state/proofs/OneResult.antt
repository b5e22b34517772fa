-- Each public contract of this crate leaves one result. Closed by the equality that it gives; the generated contract is `Reads.Post`, so this can't
-- drift from the source.
use mathlib.Core.Path.{sym, ◌∙◌}
use Rattle.octets.specs.Contract.{Leaves}
use Rattle.state.proofs.events.event_of.Reads as event-of
use Rattle.state.proofs.events.frame_from.Reads as frame-from
use Rattle.state.proofs.sound.within_limits.Reads as within-limits
use Rattle.state.proofs.sound.limit_of.Reads as limit-of
use Rattle.state.proofs.sound.sound.Reads as sound
use Rattle.state.proofs.turns.taken.Reads as taken
use Rattle.state.proofs.waiting.find.Reads as find
use Rattle.state.proofs.waiting.without.Reads as without
use Rattle.state.proofs.waiting.with_one.Reads as with-one

pub one_event_of : Leaves event-of.Post (λ κs r e. r)
one_event_of κs a x y e f p q = p ∙ sym q

pub one_frame_from : Leaves frame-from.Post (λ κs r e. r)
one_frame_from κs a x y e f p q = p ∙ sym q

pub one_within_limits : Leaves within-limits.Post (λ κs r e. r)
one_within_limits κs a x y e f p q = p ∙ sym q

-- of whatever a unit is held as
pub one_limit_of : (S : _) (laws : _) (seen : _) (dict : _) → Leaves (limit-of.Post S laws seen dict) (λ κs r e. r)
one_limit_of S laws seen dict κs a x y e f p q = p ∙ sym q

pub one_sound : (S : _) (laws : _) (seen : _) (dict : _) → Leaves (sound.Post S laws seen dict) (λ κs r e. r)
one_sound S laws seen dict κs a x y e f p q = p.0 ∙ sym q.0

pub one_taken : Leaves taken.Post (λ κs r e. r)
one_taken κs a x y e f p q = p ∙ sym q

pub one_find : Leaves find.Post (λ κs r e. r)
one_find κs a x y e f p q = p ∙ sym q

pub one_without : Leaves without.Post (λ κs r e. r)
one_without κs a x y e f p q = p ∙ sym q

pub one_with_one : Leaves with-one.Post (λ κs r e. r)
one_with_one κs a x y e f p q = p ∙ sym q
