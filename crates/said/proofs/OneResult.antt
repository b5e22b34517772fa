-- Each public contract leaves one result. Closed by the equalities that it gives; a note's type by cases.
use Rattle.std.specs.Prelude.{Option}
use mathlib.Core.Path.{◌≡◌, sym, ◌∙◌}
use Prim.Native.Nat.{ℕ}
use mathlib.Core.Bool.{Bool}
use Rattle.octets.specs.Contract.{Leaves}
use Rattle.said.specs.declared.Note.{Note}
use Rattle.said.proofs.before_name.Reads as before-name
use Rattle.said.proofs.result_of.Reads as result_of
use Rattle.said.proofs.ack_of.Reads as ack-of
use Rattle.said.proofs.settle.Reads as settle
use Rattle.said.proofs.after.Reads as after
use Rattle.said.proofs.name_of.Reads as name_of

pub one_before_name : Leaves before-name.Post (λ κs r e. r)
one_before_name κs a x y e f p q = p.0 ∙ sym q.0

pub one_result_of : Leaves result_of.Post (λ κs r e. r)
one_result_of κs a x y e f p q = p ∙ sym q

made : {m m' : Bool} {c c' r r' : ℕ} {t t' : Option ℕ} → m ≡ m' → c ≡ c' → t ≡ t' → r ≡ r' →
    ◌≡◌ {A = Note} (record { multi_shot = m; confirmation = c; message_type = t; reference = r })
    (record { multi_shot = m'; confirmation = c'; message_type = t'; reference = r' })
made e f g h = rw (e, f, g, h)

pub one_ack_of : Leaves ack-of.Post (λ κs r e. r)
one_ack_of κs a x y e f p q =
    made (p.shot ∙ sym q.shot) (p.confirmation ∙ sym q.confirmation) (p.type ∙ sym q.type) (p.reference ∙ sym q.reference)

pub one_settle : Leaves settle.Post (λ κs r e. r)
one_settle κs a x y e f p q = p ∙ sym q

pub one_after : Leaves after.Post (λ κs r e. r.now)
one_after κs a x y e f p q = p ∙ sym q

pub one_name_of : Leaves name_of.Post (λ κs r e. r)
one_name_of κs a x y e f p q = p ∙ sym q
