-- Reading what any edition writes gives the message back, and the number of its extension fields. Closed field by field: each field's reader,
-- on the octets that its writer puts behind a front, answers where they stand.
use Rattle.std.specs.Prelude.{None, Option, Some, Ok}
use Prim.Native.Nat.{ℕ, zero, suc, ◌+◌, ◌*◌, ◌/◌, ◌%◌, ◌≤◌, ◌<◌}
use native.Mathlib.Omega.{arith}
use native.Mathlib.Nat.{mul-one, mul-zero, add-zero, add-suc}
use mathlib.Core.List.{List, [], ◌∷◌, ◌++◌, append_assoc, append-nil}
use mathlib.Core.Bool.{Bool, true, false}
use mathlib.Core.Path.{◌≡◌, refl, sym, ap, ◌∙◌}
use lib.ListN.{length, drop, length-append}
use lib.Seq.{get_or-append_seam, get_or-append-add, drop-append-add, take-append_seam, take-append-add}
use lib.Dec.{ltb, eqb}
use borrow.Author.Tests.{le-leb, lt-leb, le-ltb, ne_eqb, ltb-true}
use Rattle.octets.specs.Choice.{both}
use Rattle.frame.specs.declared.Place.{Place}
use Rattle.frame.specs.declared.Header.{Header}
use Rattle.frame.specs.Message.{Message, Extension, present}
use Rattle.frame.specs.Encoding.{weight, first_octet, type_octets, number_octets, sender_octets, data_octets, extension_octets, valid_extensions, follows, frame_of}
use Rattle.frame.specs.Reading.{Step, at_place, bit, octet, number, opened, fixed_at, octets_at, sender_at, data_at, extension_at, extensions_from, rest_at, fields_of, reading_of}
use Rattle.frame.specs.Decoding.{held_at, one_octet, two_octets, message_at, valid, decode}
use Rattle.frame.specs.Writing.{wrong_sender, wrong_data, Allowed}
use Rattle.frame.proofs.ReaderLaws.{extensions_done}
use Rattle.frame.proofs.WriterLaws.{Sound, sound, sender_range, data_range}

-- where a field stands that is written at `at`
abbrev type_field : Option ℕ → ℕ → Option Place
type_field None at = None
type_field (Some x) at = at_place at 1

abbrev number_field : Option ℕ → ℕ → Option Place
number_field None at = None
number_field (Some x) at = at_place at 2

abbrev long_field : Option (List ℕ) → ℕ → Option Place
long_field None at = None
long_field (Some s) at = at_place at (length s)

abbrev got : Option Place → ℕ → Step
got f at = Ok (f, at)

-- ---- octets behind a front

at_seam : (pre : List ℕ) (x : ℕ) (rest : List ℕ) → octet (pre ++ (x ∷ rest)) (length pre) ≡ x
at_seam pre x rest = get_or-append_seam pre x rest 0

at_seam_1 : (pre : List ℕ) (x y : ℕ) (rest : List ℕ) → octet (pre ++ (x ∷ y ∷ rest)) (length pre + 1) ≡ y
at_seam_1 pre x y rest = get_or-append-add pre (x ∷ y ∷ rest) 1 0

-- a part that starts k octets behind the front, after the octets h
held_behind : (s pre h t rest : List ℕ) (k : ℕ) → length h ≡ k → s ≡ pre ++ (h ++ (t ++ rest)) → held_at s (at_place (length pre + k) (length t)) ≡ Some t
unfolding held_at
held_behind s pre h t rest k l q =
    let n = simp length-append at (ap length q) in
    let d : drop (length pre + k) s ≡ t ++ rest = rw (q, ← l, drop-append-add pre (h ++ (t ++ rest)) (length h)) (lib.Seq.drop-append_seam h (t ++ rest)) in
    simp (le-leb (length pre + k + length t) (length s) (omega arith), d, take-append_seam t rest)

module _ (s pre rest : List ℕ) where
  type_read : (k : Option ℕ) → s ≡ pre ++ (type_octets k ++ rest) →
      fixed_at s (present k) 1 (length pre) ≡ Ok (type_field k (length pre), length (pre ++ type_octets k))
  unfolding fixed_at octets_at
  type_read None q = simp append-nil
  type_read (Some x) q =
      let n = simp length-append at (ap length q) in
      simp (le-leb (length pre + 1) (length s) (omega arith), length-append)

  type_value : (k : Option ℕ) → s ≡ pre ++ (type_octets k ++ rest) → one_octet (held_at s (type_field k (length pre))) ≡ k
  unfolding held_at
  type_value None q = refl
  type_value (Some x) q = simp (rw add-zero at (held_behind s pre [] (x ∷ []) rest 0 refl q))

  number_read : (k : Option ℕ) → s ≡ pre ++ (number_octets k ++ rest) →
      fixed_at s (present k) 2 (length pre) ≡ Ok (number_field k (length pre), length (pre ++ number_octets k))
  unfolding fixed_at octets_at
  number_read None q = simp append-nil
  number_read (Some x) q =
      let n = simp length-append at (ap length q) in
      simp (le-leb (length pre + 2) (length s) (omega arith), length-append)

  number_value : (k : Option ℕ) → s ≡ pre ++ (number_octets k ++ rest) → two_octets (held_at s (number_field k (length pre))) ≡ k
  unfolding held_at
  number_value None q = refl
  number_value (Some x) q =
      simp (rw add-zero at (held_behind s pre [] (x / 256 ∷ x % 256 ∷ []) rest 0 refl q)) (ap Some (omega arith))

  sender_read : (k : Option (List ℕ)) → s ≡ pre ++ (sender_octets k ++ rest) → wrong_sender k ≡ false →
      sender_at s (present k) (length pre) ≡ Ok (long_field k (length pre + 1), length (pre ++ sender_octets k))
  unfolding sender_at octets_at
  sender_read None q h = simp append-nil
  sender_read (Some t) q h =
      let l = sender_range t h in
      let n = simp length-append at (ap length q) in
      let o : octet s (length pre) ≡ length t = simp q (at_seam pre (length t) (t ++ rest)) in
      simp (
        le-leb (length pre + 1) (length s) (omega arith),
        o,
        ne_eqb (length t) 0 (λ z. omega arith),
        le-ltb 32 (length t) l.1,
        le-leb (length pre + 1 + length t) (length s) (omega arith),
        length-append,
      )
      (ap (got (at_place (length pre + 1) (length t))) (omega arith))

  sender_value : (k : Option (List ℕ)) → s ≡ pre ++ (sender_octets k ++ rest) → held_at s (long_field k (length pre + 1)) ≡ k
  unfolding held_at
  sender_value None q = refl
  sender_value (Some t) q = held_behind s pre (length t ∷ []) t rest 1 refl q

  data_read : (k : Option (List ℕ)) → s ≡ pre ++ (data_octets k ++ rest) → wrong_data k ≡ false →
      data_at s (present k) (length pre) ≡ Ok (long_field k (length pre + 2), length (pre ++ data_octets k))
  unfolding data_at octets_at
  data_read None q h = simp append-nil
  data_read (Some t) q h =
      let l = data_range t h in
      let n = simp length-append at (ap length q) in
      let o : number s (length pre) ≡ length t =
      simp (q, at_seam pre (length t / 256) (length t % 256 ∷ (t ++ rest)), at_seam_1 pre (length t / 256) (length t % 256) (t ++ rest)) (omega arith) in
      simp (
        le-leb (length pre + 2) (length s) (omega arith),
        o,
        le-ltb 512 (length t) l,
        le-leb (length pre + 2 + length t) (length s) (omega arith),
        length-append,
      )
      (ap (got (at_place (length pre + 2) (length t))) (omega arith))

  data_value : (k : Option (List ℕ)) → s ≡ pre ++ (data_octets k ++ rest) → held_at s (long_field k (length pre + 2)) ≡ k
  unfolding held_at
  data_value None q = refl
  data_value (Some t) q = held_behind s pre (length t / 256 ∷ length t % 256 ∷ []) t rest 2 refl q

-- ---- extension fields

both_true : (a b : Bool) → both a b ≡ true → (a ≡ true) × (b ≡ true)
both_true true b e = (refl, e)
both_true false b e = let z : ◌≡◌ {A = ℕ} 0 1 = cc in absurd (omega arith)

-- each takes two octets or more
pub few_octets : (xs : List Extension) → length xs ≤ length (extension_octets xs)
few_octets [] = omega arith
few_octets (x ∷ xs) = omega (arith, length-append x.1 (extension_octets xs), few_octets xs)

extension_read : (s pre t rest : List ℕ) (tag : ℕ) → s ≡ pre ++ (tag ∷ length t ∷ (t ++ rest)) → 0 < tag →
    extension_at s (length pre) ≡ Ok (at_place (length pre + 2) (length t), length (pre ++ (tag ∷ length t ∷ t)))
unfolding extension_at octets_at
extension_read s pre t rest tag q h =
    let n = simp length-append at (ap length q) in
    let o : octet s (length pre) ≡ tag = simp q (at_seam pre tag (length t ∷ (t ++ rest))) in
    let p : octet s (length pre + 1) ≡ length t = simp q (at_seam_1 pre tag (length t) (t ++ rest)) in
    simp (
      le-leb (length pre + 1) (length s) (omega arith),
      o,
      ne_eqb tag 0 (λ z. omega arith),
      le-leb (length pre + 1 + 1) (length s) (omega arith),
      p,
      le-leb (length pre + 2 + length t) (length s) (omega arith),
      length-append,
    )
    (ap (got (at_place (length pre + 2) (length t))) (omega arith))

-- one turn of the reader's loop
turn : (s : List ℕ) (at next turns k n : ℕ) (f : Option Place) → at < length s → extension_at s at ≡ Ok (f, next) → extensions_from turns s next (k + 1) ≡ Ok n →
    extensions_from (suc turns) s at k ≡ Ok n
unfolding extensions_from
turn s at next turns k n f l e i = simp (lt-leb (length s) at l, e) i

extensions_read : (xs : List Extension) (s pre : List ℕ) (turns k : ℕ) → s ≡ pre ++ extension_octets xs → valid_extensions xs ≡ true →
    length xs ≤ turns → extensions_from turns s (length pre) k ≡ Ok (k + length xs)
extensions_read [] s pre turns k q v h =
    extensions_done turns s (length pre) k (omega (arith, ap length (q ∙ append-nil pre))) ∙ ap Ok (sym (add-zero k))
extensions_read (x ∷ xs) s pre zero k q v h = absurd (omega arith)
extensions_read (x ∷ xs) s pre (suc turns) k q v h =
    let w = both_true (ltb 0 x.0) _ v in
    let w₂ = both_true (ltb x.0 256) _ w.1 in
    let w₃ = both_true (ltb (length x.1) 256) _ w₂.1 in
    let n = simp length-append at (ap length q) in
    let e = extension_read s pre x.1 (extension_octets xs) x.0 q (ltb-true 0 x.0 w.0) in
    let p = pre ++ (x.0 ∷ length x.1 ∷ x.1) in
    let f : s ≡ p ++ extension_octets xs = q ∙ simp append_assoc in
    turn s (length pre) (length p) turns k _ _ (omega arith) e (extensions_read xs s p turns (k + 1) f w₃.1 (omega arith) ∙ ap Ok (omega arith))

rest_read : (xs : List Extension) (s pre : List ℕ) → s ≡ pre ++ extension_octets xs → valid_extensions xs ≡ true →
    rest_at s (follows xs) (length pre) ≡ Ok (length xs)
unfolding rest_at
rest_read [] s pre q v = simp (le-leb (length s) (length pre) (omega (arith, ap length (q ∙ append-nil pre))))
rest_read (x ∷ xs) s pre q v =
    let n = simp length-append at (ap length q) in
    let f = few_octets (x ∷ xs) in
    let o = length-append x.1 (extension_octets xs) in
    simp (lt-leb (length s) (length pre) (omega arith))
    (extensions_read (x ∷ xs) s pre (length s) 0 q v (omega arith) ∙ ap Ok (native.Mathlib.Nat.zero-add (length (x ∷ xs))))

-- ---- the bits of octet 0

unit : Bool → ℕ
unit true = 1
unit false = 0

unit_le : (b : Bool) → unit b ≤ 1
unfolding unit
unit_le true = omega arith
unit_le false = omega arith

digit : (n : ℕ) (b : Bool) → n ≡ unit b → eqb n 1 ≡ b
unfolding unit
digit n true q = simp q
digit n false q = simp q

weight_unit : (b : Bool) (w : ℕ) → weight b w ≡ w * unit b
unfolding unit
weight_unit true w = sym (mul-one w)
weight_unit false w = sym (mul-zero w)

record Bits (x : ℕ) (f k i r s u m : Bool) : Type 0 where
  bit7 : bit x 128 ≡ f
  bit6 : bit x 64 ≡ k
  bit5 : bit x 32 ≡ i
  bit4 : bit x 16 ≡ r
  bit3 : bit x 8 ≡ s
  bit2 : bit x 4 ≡ u
  bit1 : bit x 2 ≡ false
  bit0 : eqb (x % 2) 1 ≡ m

bits : (f k i r s u m : Bool) (x : ℕ) →
    x ≡ 128 * unit f + 64 * unit k + 32 * unit i + 16 * unit r + 8 * unit s + 4 * unit u + 1 * unit m → Bits x f k i r s u m
unfolding unit
bits f k i r s u m x q =
    let hf = unit_le f in
    let hk = unit_le k in
    let hi = unit_le i in
    let hr = unit_le r in
    let hs = unit_le s in
    let hu = unit_le u in
    let hm = unit_le m in
    record {
      bit7 = digit (x / 128 % 2) f (omega arith);
      bit6 = digit (x / 64 % 2) k (omega arith);
      bit5 = digit (x / 32 % 2) i (omega arith);
      bit4 = digit (x / 16 % 2) r (omega arith);
      bit3 = digit (x / 8 % 2) s (omega arith);
      bit2 = digit (x / 4 % 2) u (omega arith);
      bit1 = digit (x / 2 % 2) false (omega arith);
      bit0 = digit (x % 2) m (omega arith);
    }

-- ---- the whole frame

module _ (m : Message) (xs : List Extension) where
  abbrev F : ℕ
  F = first_octet (follows xs) m

  -- the octets written before each field
  abbrev front₁ : List ℕ
  front₁ = F ∷ m.confirmation ∷ []

  abbrev front₂ : List ℕ
  front₂ = front₁ ++ type_octets m.message_type

  abbrev front₃ : List ℕ
  front₃ = front₂ ++ number_octets m.message_identifier

  abbrev front₄ : List ℕ
  front₄ = front₃ ++ number_octets m.message_reference

  abbrev front₅ : List ℕ
  front₅ = front₄ ++ sender_octets m.sender

  abbrev front₆ : List ℕ
  front₆ = front₅ ++ data_octets m.user_data

  abbrev rest₅ : List ℕ
  rest₅ = extension_octets xs

  abbrev rest₄ : List ℕ
  rest₄ = data_octets m.user_data ++ rest₅

  abbrev rest₃ : List ℕ
  rest₃ = sender_octets m.sender ++ rest₄

  abbrev rest₂ : List ℕ
  rest₂ = number_octets m.message_reference ++ rest₃

  abbrev rest₁ : List ℕ
  rest₁ = number_octets m.message_identifier ++ rest₂

  abbrev header_of : Header
  header_of = record {
    multi_shot = m.multi_shot;
    confirmation = m.confirmation;
    message_type = type_field m.message_type (length front₁);
    identifier = number_field m.message_identifier (length front₂);
    reference = number_field m.message_reference (length front₃);
    sender = long_field m.sender (length front₄ + 1);
    user_data = long_field m.user_data (length front₅ + 2);
    end = length front₆;
  }

  flag_bits : Bits F (follows xs) (present m.message_type) (present m.message_identifier) (present m.message_reference) (present m.sender)
      (present m.user_data) m.multi_shot
  unfolding first_octet
  flag_bits = bits _ _ _ _ _ _ _ _ (simp weight_unit)

  split₁ : frame_of m xs ≡ front₁ ++ (type_octets m.message_type ++ rest₁)
  unfolding frame_of
  split₁ = simp append_assoc

  split₂ : frame_of m xs ≡ front₂ ++ (number_octets m.message_identifier ++ rest₂)
  unfolding frame_of
  split₂ = simp append_assoc

  split₃ : frame_of m xs ≡ front₃ ++ (number_octets m.message_reference ++ rest₃)
  unfolding frame_of
  split₃ = simp append_assoc

  split₄ : frame_of m xs ≡ front₄ ++ (sender_octets m.sender ++ rest₄)
  unfolding frame_of
  split₄ = simp append_assoc

  split₅ : frame_of m xs ≡ front₅ ++ (data_octets m.user_data ++ rest₅)
  unfolding frame_of
  split₅ = simp append_assoc

  split₆ : frame_of m xs ≡ front₆ ++ extension_octets xs
  unfolding frame_of
  split₆ = refl

  module _ (a : Allowed m) (v : valid_extensions xs ≡ true) (l : length (frame_of m xs) ≤ 1024) where
    known : Sound m
    known = sound m a

    opens : opened (frame_of m xs) ≡ Ok (F, m.confirmation)
    unfolding opened
    opens =
        let f = flag_bits in
        let s = frame_of m xs in
        let n = simp length-append at (ap length split₁) in
        let o₀ : octet s 0 ≡ F = ap (λ (s : List ℕ). octet s 0) split₁ in
        let o₁ : octet s 1 ≡ m.confirmation = ap (λ (s : List ℕ). octet s 1) split₁ in
        simp (
          le-ltb 1024 (length s) l,
          le-leb (0 + 1) (length s) (omega arith),
          o₀,
          f.bit1,
          le-leb (1 + 1) (length s) (omega arith),
          o₁,
          le-ltb 4 m.confirmation known.confirmation_low,
          f.bit5,
          f.bit4,
          f.bit3,
          known.nothing_lacks,
        )

    fields_back : fields_of (frame_of m xs) F m.confirmation ≡ Ok (record { header = header_of; extensions = length xs })
    unfolding fields_of
    fields_back =
        let f = flag_bits in
        let s = frame_of m xs in
        simp (
          f.bit7,
          f.bit6,
          f.bit5,
          f.bit4,
          f.bit3,
          f.bit2,
          f.bit0,
          type_read s front₁ rest₁ m.message_type split₁,
          number_read s front₂ rest₂ m.message_identifier split₂,
          number_read s front₃ rest₃ m.message_reference split₃,
          sender_read s front₄ rest₄ m.sender split₄ known.sender_right,
          data_read s front₅ rest₅ m.user_data split₅ known.data_right,
          rest_read xs s front₆ split₆ v,
        )

    message_back : message_at (frame_of m xs) header_of ≡ m
    unfolding message_at
    message_back =
        let s = frame_of m xs in
        simp (
          type_value s front₁ rest₁ m.message_type split₁,
          number_value s front₂ rest₂ m.message_identifier split₂,
          number_value s front₃ rest₃ m.message_reference split₃,
          sender_value s front₄ rest₄ m.sender split₄,
          data_value s front₅ rest₅ m.user_data split₅,
        )

    pub reads_whole : reading_of (frame_of m xs) ≡ Ok (record { header = header_of; extensions = length xs })
    unfolding reading_of
    reads_whole = simp opens fields_back

    pub reads_back : decode (frame_of m xs) ≡ valid m (length xs)
    unfolding decode
    reads_back = simp (reads_whole, message_back)
