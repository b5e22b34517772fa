-- Each public contract leaves one result, of either form of a unit. Closed by the equality that it gives.
use mathlib.Core.Path.{sym, ◌∙◌}
use Rattle.octets.specs.Contract.{Leaves}
use Rattle.image.proofs.seen.clear.Reads as clear
use Rattle.image.proofs.seen.ArrayU8618Seen.state.Reads as image-state
use Rattle.image.proofs.seen.ArrayU8618Seen.start.Reads as image-start
use Rattle.image.proofs.seen.ArrayU8618Seen.end.Reads as image-end
use Rattle.image.proofs.seen.ArrayU8618Seen.inactivity.Reads as image-inactivity
use Rattle.image.proofs.seen.ArrayU8618Seen.elapsed.Reads as image-elapsed
use Rattle.image.proofs.seen.ArrayU8618Seen.terms.Reads as image-terms
use Rattle.image.proofs.seen.ArrayU8618Seen.letters.Reads as image-letters
use Rattle.image.proofs.seen.ArrayU8618Seen.count.Reads as image-count
use Rattle.image.proofs.seen.ArrayU8618Seen.octets.Reads as image-octets
use Rattle.image.proofs.seen.ArrayU8618Seen.id.Reads as image-id
use Rattle.image.proofs.seen.ArrayU8618Seen.name.Reads as image-name
use Rattle.image.proofs.seen.ArrayU8618Seen.kept.Reads as image-kept
use Rattle.image.proofs.seen.ArrayU8618Seen.is_name_clear.Reads as image-is_name_clear
use Rattle.image.proofs.seen.ArrayU8618Seen.is_list_clear.Reads as image-is_list_clear
use Rattle.image.proofs.seen.ArrayU8618Seen.is_kept_clear.Reads as image-is_kept_clear
use Rattle.image.proofs.seen.UnitSeen.state.Reads as unit-state
use Rattle.image.proofs.seen.UnitSeen.start.Reads as unit-start
use Rattle.image.proofs.seen.UnitSeen.end.Reads as unit-end
use Rattle.image.proofs.seen.UnitSeen.inactivity.Reads as unit-inactivity
use Rattle.image.proofs.seen.UnitSeen.elapsed.Reads as unit-elapsed
use Rattle.image.proofs.seen.UnitSeen.terms.Reads as unit-terms
use Rattle.image.proofs.seen.UnitSeen.letters.Reads as unit-letters
use Rattle.image.proofs.seen.UnitSeen.count.Reads as unit-count
use Rattle.image.proofs.seen.UnitSeen.octets.Reads as unit-octets
use Rattle.image.proofs.seen.UnitSeen.id.Reads as unit-id
use Rattle.image.proofs.seen.UnitSeen.name.Reads as unit-name
use Rattle.image.proofs.seen.UnitSeen.kept.Reads as unit-kept
use Rattle.image.proofs.seen.UnitSeen.is_name_clear.Reads as unit-is_name_clear
use Rattle.image.proofs.seen.UnitSeen.is_list_clear.Reads as unit-is_list_clear
use Rattle.image.proofs.seen.UnitSeen.is_kept_clear.Reads as unit-is_kept_clear

pub one_clear : Leaves clear.Post (λ κs r e. r)
one_clear κs a x y e f p q = p ∙ sym q

-- ---- an image

pub one_state : Leaves image-state.Post (λ κs r e. r)
one_state κs a x y e f p q = p ∙ sym q

pub one_start : Leaves image-start.Post (λ κs r e. r)
one_start κs a x y e f p q = p ∙ sym q

pub one_end : Leaves image-end.Post (λ κs r e. r)
one_end κs a x y e f p q = p ∙ sym q

pub one_inactivity : Leaves image-inactivity.Post (λ κs r e. r)
one_inactivity κs a x y e f p q = p ∙ sym q

pub one_elapsed : Leaves image-elapsed.Post (λ κs r e. r)
one_elapsed κs a x y e f p q = p ∙ sym q

pub one_terms : Leaves image-terms.Post (λ κs r e. r)
one_terms κs a x y e f p q = p ∙ sym q

pub one_letters : Leaves image-letters.Post (λ κs r e. r)
one_letters κs a x y e f p q = p ∙ sym q

pub one_count : Leaves image-count.Post (λ κs r e. r)
one_count κs a x y e f p q = p ∙ sym q

pub one_octets : Leaves image-octets.Post (λ κs r e. r)
one_octets κs a x y e f p q = p ∙ sym q

pub one_id : Leaves image-id.Post (λ κs r e. r)
one_id κs a x y e f p q = p ∙ sym q

pub one_name : Leaves image-name.Post (λ κs r e. r.now)
one_name κs a x y e f p q = p ∙ sym q

pub one_kept : Leaves image-kept.Post (λ κs r e. r.now)
one_kept κs a x y e f p q = p ∙ sym q

pub one_is_name_clear : Leaves image-is_name_clear.Post (λ κs r e. r)
one_is_name_clear κs a x y e f p q = p.0 ∙ sym q.0

pub one_is_list_clear : Leaves image-is_list_clear.Post (λ κs r e. r)
one_is_list_clear κs a x y e f p q = p.0 ∙ sym q.0

pub one_is_kept_clear : Leaves image-is_kept_clear.Post (λ κs r e. r)
one_is_kept_clear κs a x y e f p q = p.0 ∙ sym q.0

-- ---- a unit by value

pub one_unit_state : Leaves unit-state.Post (λ κs r e. r)
one_unit_state κs a x y e f p q = p ∙ sym q

pub one_unit_start : Leaves unit-start.Post (λ κs r e. r)
one_unit_start κs a x y e f p q = p ∙ sym q

pub one_unit_end : Leaves unit-end.Post (λ κs r e. r)
one_unit_end κs a x y e f p q = p ∙ sym q

pub one_unit_inactivity : Leaves unit-inactivity.Post (λ κs r e. r)
one_unit_inactivity κs a x y e f p q = p ∙ sym q

pub one_unit_elapsed : Leaves unit-elapsed.Post (λ κs r e. r)
one_unit_elapsed κs a x y e f p q = p ∙ sym q

pub one_unit_terms : Leaves unit-terms.Post (λ κs r e. r)
one_unit_terms κs a x y e f p q = p ∙ sym q

pub one_unit_letters : Leaves unit-letters.Post (λ κs r e. r)
one_unit_letters κs a x y e f p q = p ∙ sym q

pub one_unit_count : Leaves unit-count.Post (λ κs r e. r)
one_unit_count κs a x y e f p q = p ∙ sym q

pub one_unit_octets : Leaves unit-octets.Post (λ κs r e. r)
one_unit_octets κs a x y e f p q = p ∙ sym q

pub one_unit_id : Leaves unit-id.Post (λ κs r e. r)
one_unit_id κs a x y e f p q = p ∙ sym q

pub one_unit_name : Leaves unit-name.Post (λ κs r e. r.now)
one_unit_name κs a x y e f p q = p ∙ sym q

pub one_unit_kept : Leaves unit-kept.Post (λ κs r e. r.now)
one_unit_kept κs a x y e f p q = p ∙ sym q

pub one_unit_is_name_clear : Leaves unit-is_name_clear.Post (λ κs r e. r)
one_unit_is_name_clear κs a x y e f p q = p.0 ∙ sym q.0

pub one_unit_is_list_clear : Leaves unit-is_list_clear.Post (λ κs r e. r)
one_unit_is_list_clear κs a x y e f p q = p.0 ∙ sym q.0

pub one_unit_is_kept_clear : Leaves unit-is_kept_clear.Post (λ κs r e. r)
one_unit_is_kept_clear κs a x y e f p q = p.0 ∙ sym q.0
