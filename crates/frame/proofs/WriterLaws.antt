-- The writer: what its tests make sure of, its answer; octet 0, and the whole frame.
use Rattle.std.specs.Prelude.{None, Option, Some, Result, Ok, Err}
use Rattle.std.specs.Option.{option_copied}
use Rattle.std.specs.Bool.{⊤}
use Prim.Native.Nat.{ℕ, ◌+◌, ◌*◌, ◌<◌, ◌≤◌}
use native.Mathlib.Omega.{arith}
use mathlib.Core.List.{List, [], ◌∷◌, ◌++◌, append-nil}
use mathlib.Core.Bool.{Bool, true, false}
use mathlib.Core.Path.{◌≡◌, refl, sym, ap, ◌∙◌}
use lib.ListN.{length}
use lib.Dec.{ltb, eqb}
use denote.Ref.{Bor}
use mir.Val.{bool_byte}
use borrow.Author.Tests.{le-ltb, lt-ltb, ltb-false, eqb-false}
use Rattle.octets.specs.Choice.{pick, either}
use Rattle.octets.specs.Put.{Put}
use Rattle.octets.proofs.Puts as Puts
use Rattle.frame.specs.Message.{Message, present, lacks}
use Rattle.frame.specs.Encoding.{weight, first_octet, type_octets, number_octets, sender_octets, data_octets, frame_of, encode}
use Rattle.frame.specs.Writing.{message_of, wrong_sender, wrong_data, fault_in, Allowed, refusal_of, check_of, Wrote, Room}
use Rattle.frame.specs.declared.Fault.TheVariants.{BadOctet, BadLength, Lacking}
use Rattle.frame.specs.declared.Parts.{Parts}
use Rattle.frame.specs.declared.Refusal.{Refusal}
use Rattle.frame.specs.declared.Refusal.TheVariants.{NoRoom, Faulty}

-- ---- the tests: one way out

-- where the room is enough, a confirmation above 4 is the first fault, 13 (named by docs/PORT.md)
module _ (p : Parts) (room : ℕ) (h : 1024 ≤ room) where
  pub fails_confirmation : 4 < p.confirmation → Err (Faulty BadOctet) ≡ check_of (refusal_of room (message_of p))
  unfolding refusal_of fault_in
  fails_confirmation g = simp (le-ltb room 1024 h, lt-ltb 4 p.confirmation g)

-- ---- what they make sure of

false_true : false ≡ true → ⊥
false_true e = let z : ◌≡◌ {A = ℕ} 0 1 = cc in omega arith

neither : (a b : Bool) → either a b ≡ false → (a ≡ false) × (b ≡ false)
neither false b h = (refl, h)
neither true b h = absurd (false_true (sym h))

-- a message that 01 allows
pub record Sound (m : Message) : Type 0 where
  pub confirmation_low : m.confirmation ≤ 4
  pub nothing_lacks : lacks m.confirmation (present m.message_identifier) (present m.message_reference) (present m.sender) ≡ false
  pub sender_right : wrong_sender m.sender ≡ false
  pub data_right : wrong_data m.user_data ≡ false

past : (a b c : Bool) (x y z : Refusal) → pick a (Some x) (pick b (Some y) (pick c (Some z) None)) ≡ None → (a ≡ false) × (b ≡ false) × (c ≡ false)
past false false false x y z h = (refl, refl, refl)
past true b c x y z h = let n : ◌≡◌ {A = ℕ} 0 1 = cc in absurd (omega arith)
past false true c x y z h = let n : ◌≡◌ {A = ℕ} 0 1 = cc in absurd (omega arith)
past false false true x y z h = let n : ◌≡◌ {A = ℕ} 0 1 = cc in absurd (omega arith)

pub sound : (m : Message) → Allowed m → Sound m
unfolding fault_in
sound m e =
    let w = past (ltb 4 m.confirmation) (lacks m.confirmation (present m.message_identifier) (present m.message_reference) (present m.sender))
    (either (wrong_sender m.sender) (wrong_data m.user_data)) (Faulty BadOctet) (Faulty Lacking) (Faulty BadLength) e in
    let v = neither (wrong_sender m.sender) (wrong_data m.user_data) w.2 in
    record {
      confirmation_low = ltb-false 4 m.confirmation w.0;
      nothing_lacks = w.1;
      sender_right = v.0;
      data_right = v.1;
    }

-- and back
pub allowed : (m : Message) → Sound m → Allowed m
unfolding fault_in
allowed m w = rw (le-ltb 4 m.confirmation w.confirmation_low, w.nothing_lacks, w.sender_right, w.data_right)

pub sender_range : (s : List ℕ) → wrong_sender (Some s) ≡ false → (0 < length s) × (length s ≤ 32)
unfolding wrong_sender
sender_range s h =
    let v = neither (eqb (length s) 0) (ltb 32 (length s)) h in
    let z = eqb-false (length s) 0 v.0 in
    (omega arith, ltb-false 32 (length s) v.1)

pub data_range : (s : List ℕ) → wrong_data (Some s) ≡ false → length s ≤ 512
unfolding wrong_data
data_range s h = ltb-false 512 (length s) h

pub sender_33 : (o : Option (List ℕ)) → wrong_sender o ≡ false → length (sender_octets o) ≤ 33
sender_33 None h = omega arith
sender_33 (Some s) h = let v = sender_range s h in omega arith

pub data_514 : (o : Option (List ℕ)) → wrong_data o ≡ false → length (data_octets o) ≤ 514
data_514 None h = omega arith
data_514 (Some s) h = let v = data_range s h in omega arith

pub type_1 : (o : Option ℕ) → length (type_octets o) ≤ 1
type_1 None = omega arith
type_1 (Some x) = omega arith

pub number_2 : (o : Option ℕ) → length (number_octets o) ≤ 2
number_2 None = omega arith
number_2 (Some n) = omega arith

-- ---- the answer

roomy : (b : Bool) (o : Option Refusal) → pick b (Some NoRoom) o ≡ None → (b ≡ false) × (o ≡ None)
roomy true o e = let n : ◌≡◌ {A = ℕ} 0 1 = cc in absurd (omega arith)
roomy false o e = (refl, e)

pub refused_none : (room : ℕ) (m : Message) → refusal_of room m ≡ None → (1024 ≤ room) × Allowed m
unfolding refusal_of
refused_none room m e =
    let w = roomy (ltb room 1024) (fault_in m) e in
    (ltb-false room 1024 w.0, w.1)

check_fits : (o : Option Refusal) (u : ⊤) → check_of o ≡ Ok u → o ≡ None
check_fits None u e = refl
check_fits (Some r) u e = let n : ◌≡◌ {A = ℕ} 0 1 = cc in absurd (omega arith)

check_fails : (o : Option Refusal) (r : Refusal) → check_of o ≡ Err r → o ≡ Some r
check_fails None r e = let n : ◌≡◌ {A = ℕ} 0 1 = cc in absurd (omega arith)
check_fails (Some x) r e = ap Some (cc)

module _ (m : Message) (b : List ℕ) (k : Result ⊤ Refusal) (q : k ≡ check_of (refusal_of (length b) m)) where
  pub fits_room : {u : ⊤} → k ≡ Ok u → Room m b
  fits_room {u} e =
      let w = refused_none (length b) m (check_fits (refusal_of (length b) m) u (sym q ∙ e)) in
      let v = sound m w.1 in
      record { room = w.0; sender_fits = sender_33 m.sender v.sender_right; data_fits = data_514 m.user_data v.data_right }

  -- a call that refuses leaves the whole buffer as it was (named by docs/PORT.md)
  pub wrote_not : (r : Refusal) → k ≡ Err r → Wrote (refusal_of (length b) m) (encode m) b b (Err r)
  wrote_not r e = rw (check_fails (refusal_of (length b) m) r (sym q ∙ e)) (record { answers = refl; leaves = refl })

-- ---- the whole

present_copied : (o : Option (Bor (List ℕ))) → present (option_copied o) ≡ present o
present_copied None = refl
present_copied (Some d) = refl

bool_weight : (b : Bool) (w : ℕ) → bool_byte b * w ≡ weight b w
bool_weight true w = omega arith
bool_weight false w = omega arith

pub flags_sum : (p : Parts) (k i r s u : Bool) → k ≡ present p.message_type → i ≡ present p.identifier → r ≡ present p.reference →
    s ≡ present p.sender → u ≡ present p.user_data → (a b c d e f : ℕ) → a ≡ bool_byte k → b ≡ bool_byte i → c ≡ bool_byte r →
    d ≡ bool_byte s → e ≡ bool_byte u → f ≡ bool_byte p.multi_shot →
    a * 64 + b * 32 + c * 16 + d * 8 + e * 4 + f ≡ first_octet false (message_of p)
unfolding first_octet
flags_sum p k i r s u qk qi qr qs qu a b c d e f qa qb qc qd qe qf =
    simp (qa, qb, qc, qd, qe, qf, qk, qi, qr, qs, qu, present_copied p.sender, present_copied p.user_data, bool_weight)
    (omega (arith, bool_weight p.multi_shot 1))

-- an edition 1 frame, without the extension fields that it has not
pub encode_is : (m : Message) → encode m
    ≡ (first_octet false m ∷ m.confirmation ∷ []) ++ type_octets m.message_type ++ number_octets m.message_identifier
    ++ number_octets m.message_reference ++ sender_octets m.sender ++ data_octets m.user_data
unfolding encode frame_of
encode_is m = append-nil _

pub all_put : (p : Parts) (b xs : List ℕ) (f r : ℕ) → f ≡ first_octet false (message_of p) →
    Put b 0 ((((((f ∷ p.confirmation ∷ []) ++ type_octets p.message_type) ++ number_octets p.identifier) ++ number_octets p.reference)
    ++ sender_octets (option_copied p.sender)) ++ data_octets (option_copied p.user_data)) xs r → Put b 0 (encode (message_of p)) xs r
all_put p b xs f r q g = Puts.put_as (simp q (sym (encode_is (message_of p)))) g
