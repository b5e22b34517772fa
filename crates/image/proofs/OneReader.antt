-- Each reader of a block of any length leaves one result. Closed by the equality that its contract gives.
use mathlib.Core.Path.{sym, ◌∙◌}
use Rattle.octets.specs.Contract.{Leaves}
use Rattle.image.proofs.state.Reads as state-reads
use Rattle.image.proofs.start.Reads as start-reads
use Rattle.image.proofs.end.Reads as end_reads
use Rattle.image.proofs.inactivity.Reads as inactivity-reads
use Rattle.image.proofs.elapsed.Reads as elapsed-reads
use Rattle.image.proofs.terms.Reads as terms-reads
use Rattle.image.proofs.letters.Reads as letters-reads
use Rattle.image.proofs.count.Reads as count-reads
use Rattle.image.proofs.octets.Reads as octets-reads
use Rattle.image.proofs.id.Reads as id-reads
use Rattle.image.proofs.limit.Reads as limit-reads

pub one_state : Leaves state-reads.Post (λ κs r e. r)
one_state κs a x y e f p q = p ∙ sym q

pub one_start : Leaves start-reads.Post (λ κs r e. r)
one_start κs a x y e f p q = p ∙ sym q

pub one_end : Leaves end_reads.Post (λ κs r e. r)
one_end κs a x y e f p q = p ∙ sym q

pub one_inactivity : Leaves inactivity-reads.Post (λ κs r e. r)
one_inactivity κs a x y e f p q = p ∙ sym q

pub one_elapsed : Leaves elapsed-reads.Post (λ κs r e. r)
one_elapsed κs a x y e f p q = p ∙ sym q

pub one_terms : Leaves terms-reads.Post (λ κs r e. r)
one_terms κs a x y e f p q = p ∙ sym q

pub one_letters : Leaves letters-reads.Post (λ κs r e. r)
one_letters κs a x y e f p q = p.0 ∙ sym q.0

pub one_count : Leaves count-reads.Post (λ κs r e. r)
one_count κs a x y e f p q = p.0 ∙ sym q.0

pub one_octets : Leaves octets-reads.Post (λ κs r e. r)
one_octets κs a x y e f p q = p ∙ sym q

pub one_id : Leaves id-reads.Post (λ κs r e. r)
one_id κs a x y e f p q = p ∙ sym q

pub one_limit : Leaves limit-reads.Post (λ κs r e. r)
one_limit κs a x y e f p q = p ∙ sym q
