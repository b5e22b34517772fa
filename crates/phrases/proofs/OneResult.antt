-- Each public contract leaves one result, and one content of the lent buffer. Closed by the two equalities of `Put`.
use mathlib.Core.Path.{◌≡◌, sym, ◌∙◌}
use mathlib.Core.List.{List}
use Prim.Native.Nat.{ℕ}
use Rattle.octets.specs.Contract.{Leaves}
use Rattle.phrases.specs.Page.{Writes}
use Rattle.phrases.specs.declared.spelling.Page.{Page}
use Rattle.phrases.proofs.spelling.Page.say.Reads as say
use Rattle.phrases.proofs.spelling.Page.number.Reads as number
use Rattle.phrases.proofs.spelling.Page.beginning.Reads as beginning
use Rattle.phrases.proofs.tables.terms.Reads as terms
use Rattle.phrases.proofs.tables.reason.Reads as reason
use Rattle.phrases.proofs.frames.frame_words.Reads as frame-words
use Rattle.phrases.proofs.frames.frame_or_nothing.Reads as frame-or-nothing
use Rattle.phrases.proofs.frames.answered.Reads as answered
use Rattle.phrases.proofs.tables.accepted.Reads as accepted
use Rattle.phrases.proofs.tables.delivery.Reads as delivery
use Rattle.phrases.proofs.tables.refusal_meaning.Reads as refusal-meaning
use Rattle.phrases.proofs.tables.state_name.Reads as state-name

same_place : {p q r : Page} {x : List ℕ} {k : ℕ} → Writes p x k q → Writes p x k r → q.at ≡ r.at
same_place v w = v.put.place ∙ sym w.put.place

same_held : {p q r : Page} {x : List ℕ} {k : ℕ} → Writes p x k q → Writes p x k r → q.out.now ≡ r.out.now
same_held v w = v.put.held ∙ sym w.put.held

pub one_say : Leaves say.Post (λ κs r e. e.0.now.at)
one_say κs a x y e f p q = same_place p q

pub one_say_buffer : Leaves say.Post (λ κs r e. e.0.now.out.now)
one_say_buffer κs a x y e f p q = same_held p q

pub one_number : Leaves number.Post (λ κs r e. e.0.now.at)
one_number κs a x y e f p q = same_place p q

pub one_number_buffer : Leaves number.Post (λ κs r e. e.0.now.out.now)
one_number_buffer κs a x y e f p q = same_held p q

pub one_beginning : Leaves beginning.Post (λ κs r e. e.0.now.at)
one_beginning κs a x y e f p q = same_place p q

pub one_beginning_buffer : Leaves beginning.Post (λ κs r e. e.0.now.out.now)
one_beginning_buffer κs a x y e f p q = same_held p q

pub one_terms : Leaves terms.Post (λ κs r e. e.0.now.at)
one_terms κs a x y e f p q = same_place p q

pub one_terms_buffer : Leaves terms.Post (λ κs r e. e.0.now.out.now)
one_terms_buffer κs a x y e f p q = same_held p q

pub one_reason : Leaves reason.Post (λ κs r e. e.0.now.at)
one_reason κs a x y e f p q = same_place p q

pub one_reason_buffer : Leaves reason.Post (λ κs r e. e.0.now.out.now)
one_reason_buffer κs a x y e f p q = same_held p q

pub one_frame_words : Leaves frame-words.Post (λ κs r e. e.0.now.at)
one_frame_words κs a x y e f p q = same_place p q

pub one_frame_words_buffer : Leaves frame-words.Post (λ κs r e. e.0.now.out.now)
one_frame_words_buffer κs a x y e f p q = same_held p q

pub one_frame_or_nothing : Leaves frame-or-nothing.Post (λ κs r e. e.0.now.at)
one_frame_or_nothing κs a x y e f p q = same_place p q

pub one_frame_or_nothing_buffer : Leaves frame-or-nothing.Post (λ κs r e. e.0.now.out.now)
one_frame_or_nothing_buffer κs a x y e f p q = same_held p q

pub one_answered : Leaves answered.Post (λ κs r e. e.0.now.at)
one_answered κs a x y e f p q = same_place p q

pub one_answered_buffer : Leaves answered.Post (λ κs r e. e.0.now.out.now)
one_answered_buffer κs a x y e f p q = same_held p q

pub one_accepted : Leaves accepted.Post (λ κs r e. r.now)
one_accepted κs a x y e f p q = p.0 ∙ sym q.0

pub one_delivery : Leaves delivery.Post (λ κs r e. r.now)
one_delivery κs a x y e f p q = p.0 ∙ sym q.0

pub one_refusal_meaning : Leaves refusal-meaning.Post (λ κs r e. r.now)
one_refusal_meaning κs a x y e f p q = p.0 ∙ sym q.0

pub one_state_name : Leaves state-name.Post (λ κs r e. r.now)
one_state_name κs a x y e f p q = p.0 ∙ sym q.0
