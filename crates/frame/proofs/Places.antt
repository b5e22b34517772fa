-- WHERE THE FIELDS OF A FRAME STAND: each behind the first two octets and within the frame, which has at most 1,024 octets. Closed by taking the
-- reader's answer apart, field by field.
use Prim.Native.Nat.{ℕ, ◌+◌, ◌≤◌}
use mathlib.Core.Path.{◌≡◌, refl, sym}
use mathlib.Core.Bool.{Bool, true, false, not}
use mathlib.Core.List.{List}
use native.Mathlib.Omega.{arith}
use borrow.Author.Tests.{leb-true, ltb-false}
use lib.Dec.{ltb, eqb}
use lib.ListN.{length}
use Rattle.std.specs.Prelude.{None, Option, Result, Ok, Err}
use Rattle.octets.specs.Choice.{pick, either}
use Rattle.frame.specs.declared.Fault.{Fault}
use Rattle.frame.specs.declared.Fault.TheVariants.{Incomplete, BadLength, TooLong}
use Rattle.frame.specs.declared.Place.{Place}
use Rattle.frame.specs.declared.Header.{Header}
use Rattle.frame.specs.declared.Whole.{Whole}
use Rattle.frame.specs.Reading.{octet, number, bit, room, opened, octets_at, fixed_at, sender_at, data_at, rest_at, Step, at_place, and_then, at_end, fields_of, reading_of}

-- a field that stands within the frame, behind its first two octets
pub data Stands (s : List ℕ) : Option Place → Type 0 where
  absent : Stands s None
  there : (start len : ℕ) → 2 ≤ start → start + len ≤ length s → Stands s (at_place start len)

-- the same of a field reader's answer, and the next field does not stand further left
data Steps (s : List ℕ) : Step → Type 0 where
  got : (f : Option Place) (at : ℕ) → Stands s f → 2 ≤ at → Steps s (Ok (f, at))
  bad : (f : Fault) → Steps s (Err f)

-- every field of a message that was read
pub record Placed (s : List ℕ) (h : Header) : Type 0 where
  pub type : Stands s h.message_type
  pub identifier : Stands s h.identifier
  pub reference : Stands s h.reference
  pub sender : Stands s h.sender
  pub user_data : Stands s h.user_data

data Answer (s : List ℕ) : Result Whole Fault → Type 0 where
  whole : (w : Whole) → Placed s w.header → Answer s (Ok w)
  faulty : (f : Fault) → Answer s (Err f)

module _ (s : List ℕ) where
  chosen : (b : Bool) (x y : Step) → Steps s x → Steps s y → Steps s (pick b x y)
  chosen true x y p q = p
  chosen false x y p q = q

  octets_stand : (n at : ℕ) → 2 ≤ at → Steps s (octets_at s n at)
  unfolding octets_at
  octets_stand n at h = go (room s at n) refl
    where
      go : (b : Bool) → b ≡ room s at n → Steps s (pick b (Ok (at_place at n, at + n)) (Err Incomplete))
      go true e = got (at_place at n) (at + n) (there at n h (leb-true (at + n) (length s) (sym e))) (omega arith)
      go false e = bad Incomplete

  fixed_stands : (p : Bool) (n at : ℕ) → 2 ≤ at → Steps s (fixed_at s p n at)
  unfolding fixed_at
  fixed_stands p n at h = chosen p _ _ (octets_stand n at h) (got None at absent h)

  sender_stands : (p : Bool) (at : ℕ) → 2 ≤ at → Steps s (sender_at s p at)
  unfolding sender_at
  sender_stands p at h =
      chosen p _ _
      (chosen (not (room s at 1)) _ _ (bad Incomplete)
      (chosen (either (eqb (octet s at) 0) (ltb 32 (octet s at))) _ _ (bad BadLength) (octets_stand (octet s at) (at + 1) (omega arith))))
      (got None at absent h)

  data_stands : (p : Bool) (at : ℕ) → 2 ≤ at → Steps s (data_at s p at)
  unfolding data_at
  data_stands p at h =
      chosen p _ _
      (chosen (not (room s at 2)) _ _ (bad Incomplete) (chosen (ltb 512 (number s at)) _ _ (bad BadLength) (octets_stand (number s at) (at + 2) (omega arith))))
      (got None at absent h)

  -- one field after the other
  then : {x : Step} (k : Option Place → ℕ → Result Whole Fault) → Steps s x → ((f : Option Place) (at : ℕ) → Stands s f → 2 ≤ at → Answer s (k f at)) → Answer s (and_then x k)
  then k (got f at p h) g = g f at p h
  then k (bad f) g = faulty f

  ends : (x : Result ℕ Fault) (k : ℕ → Result Whole Fault) → ((n : ℕ) → Answer s (k n)) → Answer s (at_end x k)
  ends (Ok n) k g = g n
  ends (Err f) k g = faulty f

  fields_stand : (flags confirmation : ℕ) → Answer s (fields_of s flags confirmation)
  unfolding fields_of
  fields_stand flags confirmation =
      then _ (fixed_stands (bit flags 64) 1 2 (omega arith)) (λ t a p₁ h₁.
      then _ (fixed_stands (bit flags 32) 2 a h₁) (λ i b p₂ h₂.
      then _ (fixed_stands (bit flags 16) 2 b h₂) (λ r c p₃ h₃.
      then _ (sender_stands (bit flags 8) c h₃) (λ o d p₄ h₄.
      then _ (data_stands (bit flags 4) d h₄) (λ u e p₅ h₅.
      ends (rest_at s (bit flags 128) e) _ (λ n.
      whole _ (record { type = p₁; identifier = p₂; reference = p₃; sender = p₄; user_data = p₅ })))))))

  begins : (x : Result (ℕ × ℕ) Fault) → Answer s (and_then x (λ flags confirmation. fields_of s flags confirmation))
  begins (Ok x) = fields_stand x.0 x.1
  begins (Err f) = faulty f

  reads : Answer s (reading_of s)
  unfolding reading_of
  reads = begins (opened s)

  placed_in : {x : Result Whole Fault} (w : Whole) → Answer s x → x ≡ Ok w → Placed s w.header
  placed_in w (whole v p) e = let q : v ≡ w = cc in rw q at p
  placed_in w (faulty f) e = let z : ◌≡◌ {A = ℕ} 0 1 = cc in absurd (omega arith)

  -- each field of a frame that was read stands within it
  pub placed : (w : Whole) → reading_of s ≡ Ok w → Placed s w.header
  placed w e = placed_in w reads e

  -- "any frame at most 1,024" octets
  pub brief : (w : Whole) → reading_of s ≡ Ok w → length s ≤ 1024
  unfolding reading_of opened
  brief w e = go (ltb 1024 (length s)) refl _ e
    where
      go : (b : Bool) → b ≡ ltb 1024 (length s) → (x : Result (ℕ × ℕ) Fault) → and_then (pick b (Err TooLong) x) (λ flags confirmation. fields_of s flags confirmation) ≡ Ok w
          → length s ≤ 1024
      go true q x r = let z : ◌≡◌ {A = ℕ} 0 1 = cc in absurd (omega arith)
      go false q x r = ltb-false 1024 (length s) (sym q)
