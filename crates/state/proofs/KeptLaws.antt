-- The kept frame: one law for each way out of its test.
use Rattle.std.specs.Prelude.{Result, Ok, Err}
use Prim.Native.Nat.{ℕ, zero, suc}
use mathlib.Core.Path.{◌≡◌, refl, ap, sym, ◌∙◌}
use mathlib.Core.Bool.{Bool, true, false}
use mathlib.Core.List.{List}
use native.Mathlib.Omega.{arith}
use borrow.Author.Tests.{ne_eqb}
use lib.Dec.{eqb}
use lib.ListN.{get_or}
use Rattle.frame.specs.declared.Header.{Header}
use Rattle.frame.specs.declared.Fault.{Fault}
use Rattle.frame.specs.declared.Whole.{Whole}
use Rattle.frame.specs.Reading.{reading_of}
use Rattle.frame.specs.Decoding.{message_at, held_at, two_octets}
use Rattle.octets.specs.Choice.{both}
use Rattle.book.specs.Book.{Frame, good}
use Rattle.book.specs.View.{needed, reading_in, frame_at}
use Rattle.book.specs.Sound.{kept_reads}
use Rattle.book.specs.declared.Unit.{Unit as Value}
use Rattle.book.proofs.Views.{faulty_reading, whole_reading, plain_view, sure_view, note_view}

-- a frame with extension fields is not kept
alone : (u : Value) (f : Frame) (n : ℕ) → kept_reads u (good f n) ≡ both (eqb n 0) (kept_reads u (good f 0))
alone u f zero = refl
alone u f (suc n) = ap (λ b. both b (kept_reads u (good f 0))) (sym (ne_eqb (suc n) 0 (λ z. omega arith)))

module _ (u : Value) (s : List ℕ) (h : Header) (n : ℕ) where
  as_view : {g : Frame} → frame_at s h ≡ g → kept_reads u (good (frame_at s h) n) ≡ both (eqb n 0) (kept_reads u (good g 0))
  as_view p = alone u (frame_at s h) n ∙ ap (λ f. both (eqb n 0) (kept_reads u (good f 0))) p

  -- what is asked of a message that was read, by its confirmation
  pub says_plain : h.confirmation ≡ 0 → kept_reads u (good (frame_at s h) n) ≡ both (eqb n 0) (both h.multi_shot (eqb u.count 0))
  unfolding message_at
  says_plain c = as_view (plain_view (message_at s h) c)

  pub says_sure : h.confirmation ≡ 1
      → kept_reads u (good (frame_at s h) n) ≡ both (eqb n 0) (both h.multi_shot (both (eqb u.count 1) (eqb (get_or u.waiting 0 0) (needed (two_octets (held_at s h.identifier))))))
  unfolding message_at
  says_sure c = as_view (sure_view (message_at s h) c)

  pub says_note : (h.confirmation ≡ 0 → ⊥) → (h.confirmation ≡ 1 → ⊥) → kept_reads u (good (frame_at s h) n) ≡ false
  unfolding message_at
  says_note a b = as_view (note_view (message_at s h) (omega arith)) ∙ none (eqb n 0)
    where
      none : (b : Bool) → both b false ≡ false
      none true = refl
      none false = refl

module _ (u : Value) (s : List ℕ) {x : Result Whole Fault} (q : x ≡ reading_of s) where
  pub reads_bad : {f : Fault} → x ≡ Err f → false ≡ kept_reads u (reading_in s)
  reads_bad e = sym (ap (kept_reads u) (faulty_reading s q e))

  pub reads_good : {v : Whole} {a : Bool} → x ≡ Ok v → a ≡ kept_reads u (good (frame_at s v.header) v.extensions) → a ≡ kept_reads u (reading_in s)
  reads_good {v} e g = g ∙ sym (ap (kept_reads u) (whole_reading s v q e))
