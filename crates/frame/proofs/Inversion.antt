-- What is known of a frame that was read: writing its message gives the frame without its extension fields. Closed by taking the reader's
-- answer apart, field by field.
use Rattle.std.specs.Prelude.{None, Option, Some, Result, Ok, Err}
use Prim.Native.Nat.{ℕ, zero, suc, ◌+◌, ◌-◌, ◌*◌, ◌/◌, ◌%◌, ◌≤◌, ◌<◌}
use native.Mathlib.Omega.{arith}
use native.Mathlib.Numerals.{add-one}
use native.Mathlib.Nat.{mul-one, mul-zero, zero-add}
use mathlib.Core.List.{List, [], ◌∷◌, ◌++◌, append_assoc, append-nil}
use mathlib.Core.Bool.{Bool, true, false, not}
use mathlib.Core.Path.{◌≡◌, refl, sym, ap, ◌∙◌, subst}
use lib.ListN.{length, take, drop, length-append, length-drop}
use lib.Seq.{take-suc, take-add, drop-cons, length-take-le}
use lib.Dec.{ltb, leb, eqb}
use borrow.Author.Tests.{le-leb, ltb-false, leb-true, eqb-false}
use Rattle.octets.specs.Choice.{pick, either}
use Rattle.frame.specs.declared.Fault.{Fault}
use Rattle.frame.specs.declared.Fault.TheVariants.{TooLong, Incomplete, BadOctet, BadLength, Lacking, LeftOver}
use Rattle.frame.specs.declared.Place.{Place}
use Rattle.frame.specs.declared.Header.{Header}
use Rattle.frame.specs.declared.Whole.{Whole}
use Rattle.frame.specs.Message.{Message, present, lacks}
use Rattle.frame.specs.Encoding.{weight, first_octet, type_octets, number_octets, sender_octets, data_octets, frame_of, encode}
use Rattle.frame.specs.Reading.{room, bit, octet, number, opened, fixed_at, octets_at, sender_at, data_at, rest_at}
use Rattle.frame.specs.Reading.{Step, at_place, and_then, at_end, fields_of, reading_of, extension_at, extensions_from}
use Rattle.frame.specs.Decoding.{held_at, one_octet, two_octets, message_at}
use Rattle.frame.specs.Writing.{wrong_sender, wrong_data}
use Rattle.frame.specs.Stripping.{bare_to}
use Rattle.frame.proofs.BareLaws.{bare-length, bare_same}
use Rattle.frame.proofs.ReaderLaws.{extension_after}
use Rattle.frame.proofs.WriterLaws.{Sound, encode_is, type_1, number_2, sender_33, data_514}

-- a field was taken from `at` to m: these octets
record Took (s : List ℕ) (at m : ℕ) (e : List ℕ) : Type 0 where
  within : m ≤ length s
  onward : at ≤ m
  octets : take m s ≡ take at s ++ e

took_none : (s : List ℕ) (at m : ℕ) → at ≤ length s → m ≡ at → Took s at m []
took_none s at m h q = record { within = omega arith; onward = omega arith; octets = simp (q, append-nil) }

-- what two answers have in common that are the same
got_parts : {f g : Option Place} {m n : ℕ} → ◌≡◌ {A = Step} (Ok (f, m)) (Ok (g, n)) → (f ≡ g) × (m ≡ n)
got_parts {f} {g} {m} {n} e =
    let q : ◌≡◌ {A = Option Place × ℕ} (f, m) (g, n) = cc in
    (ap (λ (x : Option Place × ℕ). x.0) q, ap (λ (x : Option Place × ℕ). x.1) q)

-- octets that are to be there, were there
octets_inv : (s : List ℕ) (n at : ℕ) (f : Option Place) (m : ℕ) (b : Bool) → b ≡ room s at n → pick {A = Step} b (Ok (at_place at n, at + n)) (Err Incomplete) ≡ Ok (f, m) →
    (f ≡ at_place at n) × (m ≡ at + n) × (at + n ≤ length s)
octets_inv s n at f m true q e = (sym (got_parts e).0, sym (got_parts e).1, leb-true (at + n) (length s) (sym q))
octets_inv s n at f m false q e = let z : ◌≡◌ {A = ℕ} 0 1 = cc in absurd (omega arith)

octets_got : (s : List ℕ) (n at : ℕ) (f : Option Place) (m : ℕ) → octets_at s n at ≡ Ok (f, m) → (f ≡ at_place at n) × (m ≡ at + n) × (at + n ≤ length s)
unfolding octets_at
octets_got s n at f m e = octets_inv s n at f m (room s at n) refl e

absent_got : (at : ℕ) (f : Option Place) (m : ℕ) → ◌≡◌ {A = Step} (Ok (None, at)) (Ok (f, m)) → (f ≡ None) × (m ≡ at)
absent_got at f m e = (sym (got_parts e).0, sym (got_parts e).1)

take_one : (s : List ℕ) (at : ℕ) → at + 1 ≤ length s → take (at + 1) s ≡ take at s ++ (octet s at ∷ [])
take_one s at h = simp add-one (take-suc s at 0 (omega arith))

take-two : (s : List ℕ) (at : ℕ) → at + 2 ≤ length s → take (at + 2) s ≡ take at s ++ (octet s at ∷ octet s (at + 1) ∷ [])
take-two s at h =
    let q : at + 2 ≡ at + 1 + 1 = omega arith in
    simp q (take_one s (at + 1) (omega arith) ∙ simp (take_one s at (omega arith), append_assoc))

-- the octets of a field that is there
held_at_lem : (s : List ℕ) (at n : ℕ) → at + n ≤ length s → held_at s (at_place at n) ≡ Some (take n (drop at s))
unfolding held_at
held_at_lem s at n h = simp (le-leb (at + n) (length s) h)

part_length : (s : List ℕ) (at n : ℕ) → at + n ≤ length s → length (take n (drop at s)) ≡ n
part_length s at n h = length-take-le n (drop at s) (simp length-drop (omega arith))

held_one : (s : List ℕ) (at : ℕ) → at + 1 ≤ length s → held_at s (at_place at 1) ≡ Some (octet s at ∷ [])
held_one s at h = held_at_lem s at 1 h ∙ ap Some (rw (drop-cons s at 0 (omega arith)))

held_two : (s : List ℕ) (at : ℕ) → at + 2 ≤ length s → held_at s (at_place at 2) ≡ Some (octet s at ∷ octet s (at + 1) ∷ [])
held_two s at h = held_at_lem s at 2 h ∙ ap Some (rw (add-one, drop-cons s at 0 (omega arith), drop-cons s (suc at) 0 (omega arith)))

held_absent : (s : List ℕ) → held_at s None ≡ None
unfolding held_at
held_absent s = refl

type_inv : (s : List ℕ) (b : Bool) (at : ℕ) (f : Option Place) (m : ℕ) → at ≤ length s → fixed_at s b 1 at ≡ Ok (f, m) →
    Took s at m (type_octets (one_octet (held_at s f))) × (present (one_octet (held_at s f)) ≡ b)
unfolding fixed_at
type_inv s false at f m h e =
    let w = absent_got at f m e in
    (simp (w.0, held_absent s) (took_none s at m h w.1), simp (w.0, held_absent s))
type_inv s true at f m h e =
    let w = octets_got s 1 at f m e in (
      simp (w.0, w.1, held_one s at w.2) (record { within = w.2; onward = omega arith; octets = take_one s at w.2 }),
      simp (w.0, held_one s at w.2),
    )

number_inv : (s : List ℕ) → ((i : ℕ) → octet s i < 256) → (b : Bool) (at : ℕ) (f : Option Place) (m : ℕ) → at ≤ length s → fixed_at s b 2 at ≡ Ok (f, m) →
    Took s at m (number_octets (two_octets (held_at s f))) × (present (two_octets (held_at s f)) ≡ b)
unfolding fixed_at
number_inv s small false at f m h e =
    let w = absent_got at f m e in
    (simp (w.0, held_absent s) (took_none s at m h w.1), simp (w.0, held_absent s))
number_inv s small true at f m h e =
    let w = octets_got s 2 at f m e in
    let l = small (at + 1) in
    let qa : number s at / 256 ≡ octet s at = omega arith in
    let qb : number s at % 256 ≡ octet s (at + 1) = omega arith in (
      simp (w.0, w.1, held_two s at w.2) (record { within = w.2; onward = omega arith; octets = take-two s at w.2 ∙ simp (qa, qb) }),
      simp (w.0, held_two s at w.2),
    )

past_two : (a b : Bool) (c d : Fault) (x : Step) (f : Option Place) (m : ℕ) → pick a (Err c) (pick b (Err d) x) ≡ Ok (f, m) → (b ≡ false) × (x ≡ Ok (f, m))
past_two true b c d x f m e = let z : ◌≡◌ {A = ℕ} 0 1 = cc in absurd (omega arith)
past_two false true c d x f m e = let z : ◌≡◌ {A = ℕ} 0 1 = cc in absurd (omega arith)
past_two false false c d x f m e = (refl, e)

-- a field with a length in front, from the place after that length on: its octets are the length's octets `l` and its own
long_took : (s l : List ℕ) (at from n : ℕ) → at ≤ from → from + n ≤ length s → take from s ≡ take at s ++ l →
    Took s at (from + n) (l ++ take n (drop from s))
long_took s l at from n o h q = record { within = h; onward = omega arith; octets = take-add from n s ∙ simp (q, append_assoc) }

sender_inv : (s : List ℕ) (b : Bool) (at : ℕ) (f : Option Place) (m : ℕ) → at ≤ length s → sender_at s b at ≡ Ok (f, m) →
    Took s at m (sender_octets (held_at s f)) × (present (held_at s f) ≡ b) × (wrong_sender (held_at s f) ≡ false)
unfolding sender_at wrong_sender
sender_inv s false at f m h e =
    let w = absent_got at f m e in
    (simp (w.0, held_absent s) (took_none s at m h w.1), simp (w.0, held_absent s), simp (w.0, held_absent s))
sender_inv s true at f m h e =
    let n = octet s at in
    let v = past_two (not (room s at 1)) (either (eqb (octet s at) 0) (ltb 32 (octet s at))) Incomplete BadLength (octets_at s n (at + 1)) f m e in
    let w = octets_got s n (at + 1) f m v.1 in
    let k = held_at_lem s (at + 1) n w.2 in
    let l = part_length s (at + 1) n w.2 in (
      simp (w.0, w.1, k, l) (long_took s (n ∷ []) at (at + 1) n (omega arith) w.2 (take_one s at (omega arith))),
      simp (w.0, k),
      simp (w.0, k, l) v.0,
    )

data_inv : (s : List ℕ) → ((i : ℕ) → octet s i < 256) → (b : Bool) (at : ℕ) (f : Option Place) (m : ℕ) → at ≤ length s → data_at s b at ≡ Ok (f, m) →
    Took s at m (data_octets (held_at s f)) × (present (held_at s f) ≡ b) × (wrong_data (held_at s f) ≡ false)
unfolding data_at wrong_data
data_inv s small false at f m h e =
    let w = absent_got at f m e in
    (simp (w.0, held_absent s) (took_none s at m h w.1), simp (w.0, held_absent s), simp (w.0, held_absent s))
data_inv s small true at f m h e =
    let n = number s at in
    let v = past_two (not (room s at 2)) (ltb 512 (number s at)) Incomplete BadLength (octets_at s n (at + 2)) f m e in
    let w = octets_got s n (at + 2) f m v.1 in
    let k = held_at_lem s (at + 2) n w.2 in
    let l = part_length s (at + 2) n w.2 in
    let b = small (at + 1) in
    let qa : number s at / 256 ≡ octet s at = omega arith in
    let qb : number s at % 256 ≡ octet s (at + 1) = omega arith in
    let q : take (at + 2) s ≡ take at s ++ (n / 256 ∷ n % 256 ∷ []) = take-two s at (omega arith) ∙ simp (qa, qb) in (
      simp (w.0, w.1, k, l) (long_took s (n / 256 ∷ n % 256 ∷ []) at (at + 2) n (omega arith) w.2 q),
      simp (w.0, k),
      simp (w.0, k, l) v.0,
    )

-- nothing follows the fields of a frame with bit 7 clear
rest_inv : (s : List ℕ) (at n : ℕ) → rest_at s false at ≡ Ok n → (length s ≤ at) × (n ≡ 0)
unfolding rest_at
rest_inv s at n e = clear (leb (length s) at) refl e
  where
    clear : (b : Bool) → b ≡ leb (length s) at → pick b (Ok 0) (Err LeftOver) ≡ Ok n → (length s ≤ at) × (n ≡ 0)
    clear true q e = (leb-true (length s) at (sym q), cc)
    clear false q e = let z : ◌≡◌ {A = ℕ} 0 1 = cc in absurd (omega arith)

-- an answer of two values of which something was made: it was no fault
record Past {A B C : Type 0} (x : Result (A × B) Fault) (k : A → B → Result C Fault) (c : C) : Type 0 where
  field : A
  next : B
  got : x ≡ Ok (field, next)
  then : k field next ≡ Ok c

past_inv : {A B C : Type 0} (x : Result (A × B) Fault) (k : A → B → Result C Fault) (c : C) → and_then x k ≡ Ok c → Past x k c
past_inv (Ok p) k c e = record { field = p.0; next = p.1; got = refl; then = e }
past_inv (Err f) k c e = let z : ◌≡◌ {A = ℕ} 0 1 = cc in absurd (omega arith)

-- extension fields take two octets or more each
extensions_few : (k : ℕ) (s : List ℕ) (at n m : ℕ) → at ≤ length s → extensions_from k s at n ≡ Ok m → 2 * m + at ≤ 2 * n + length s
unfolding extensions_from
extensions_few zero s at n m h e = let q : n ≡ m = cc in omega arith
extensions_few (suc k) s at n m h e = step (leb (length s) at) e (λ at'. extensions_few k s at' (n + 1) m)
  where
    step : (b : Bool) → pick b (Ok n) (and_then (extension_at s at) (λ _ next. extensions_from k s next (n + 1))) ≡ Ok m →
        ((at' : ℕ) → at' ≤ length s → extensions_from k s at' (n + 1) ≡ Ok m → 2 * m + at' ≤ 2 * (n + 1) + length s) →
        2 * m + at ≤ 2 * n + length s
    step true e ih = let q : n ≡ m = cc in omega arith
    step false e ih =
        let y = past_inv (extension_at s at) _ m e in
        let l = extension_after s at y.field y.next y.got in
        let i = ih y.next l.1 y.then in
        omega (arith, l.0)

rest_few : (s : List ℕ) (b : Bool) (at m : ℕ) → 2 ≤ at → at ≤ length s → length s ≤ 1024 → rest_at s b at ≡ Ok m → m ≤ 511
unfolding rest_at
rest_few s false at m h w l e = step (leb (length s) at) e
  where
    step : (b : Bool) → pick b (Ok 0) (Err LeftOver) ≡ Ok m → m ≤ 511
    step true e = let q : 0 ≡ m = cc in omega arith
    step false e = let z : ◌≡◌ {A = ℕ} 0 1 = cc in absurd (omega arith)
rest_few s true at m h w l e = step (leb (length s) at) e
  where
    step : (b : Bool) → pick b (Err Incomplete) (extensions_from (length s) s at 0) ≡ Ok m → m ≤ 511
    step true e = let z : ◌≡◌ {A = ℕ} 0 1 = cc in absurd (omega arith)
    step false e = let i = extensions_few (length s) s at 0 m w e in omega arith

-- the same of an answer of one value
record Ended (x : Result ℕ Fault) (k : ℕ → Result Whole Fault) (v : Whole) : Type 0 where
  many : ℕ
  got : x ≡ Ok many
  then : k many ≡ Ok v

ended_inv : (x : Result ℕ Fault) (k : ℕ → Result Whole Fault) (v : Whole) → at_end x k ≡ Ok v → Ended x k v
ended_inv (Ok m) k v e = record { many = m; got = refl; then = e }
ended_inv (Err f) k v e = let z : ◌≡◌ {A = ℕ} 0 1 = cc in absurd (omega arith)

open_inv : (a b c d e f : Bool) (x y F C : ℕ) →
    pick {A = Result (ℕ × ℕ) Fault} a (Err TooLong) (pick b (Err Incomplete) (pick c (Err BadOctet) (pick d (Err Incomplete) (pick e (Err BadOctet) (pick f (Err Lacking) (Ok (x, y))))))) ≡ Ok (F, C) →
    (c ≡ false) × (d ≡ false) × (F ≡ x) × (C ≡ y) × (e ≡ false) × (f ≡ false) × (a ≡ false)
open_inv false false false false false false x y F C h =
    let q : ◌≡◌ {A = ℕ × ℕ} (F, C) (x, y) = cc in
    (refl, refl, ap (λ (p : ℕ × ℕ). p.0) q, ap (λ (p : ℕ × ℕ). p.1) q, refl, refl, refl)
open_inv true b c d e f x y F C h = let z : ◌≡◌ {A = ℕ} 0 1 = cc in absurd (omega arith)
open_inv false true c d e f x y F C h = let z : ◌≡◌ {A = ℕ} 0 1 = cc in absurd (omega arith)
open_inv false false true d e f x y F C h = let z : ◌≡◌ {A = ℕ} 0 1 = cc in absurd (omega arith)
open_inv false false false true e f x y F C h = let z : ◌≡◌ {A = ℕ} 0 1 = cc in absurd (omega arith)
open_inv false false false false true f x y F C h = let z : ◌≡◌ {A = ℕ} 0 1 = cc in absurd (omega arith)
open_inv false false false false false true x y F C h = let z : ◌≡◌ {A = ℕ} 0 1 = cc in absurd (omega arith)

record Opened (s : List ℕ) (F C : ℕ) : Type 0 where
  two : 2 ≤ length s
  bit1 : bit F 2 ≡ false
  first : F ≡ octet s 0
  second : C ≡ octet s 1
  low : C ≤ 4
  brief : length s ≤ 1024
  complete : lacks C (bit F 32) (bit F 16) (bit F 8) ≡ false

room_true : (b : Bool) → not b ≡ false → b ≡ true
room_true true e = refl
room_true false e = sym e

opened_inv : (s : List ℕ) (F C : ℕ) → opened s ≡ Ok (F, C) → Opened s F C
unfolding opened
opened_inv s F C e =
    let w = open_inv (ltb 1024 (length s)) (not (room s 0 1)) (bit (octet s 0) 2) (not (room s 1 1)) (ltb 4 (octet s 1))
    (lacks (octet s 1) (bit (octet s 0) 32) (bit (octet s 0) 16) (bit (octet s 0) 8)) (octet s 0) (octet s 1) F C e in
    record {
      two = leb-true 2 (length s) (room_true (room s 1 1) w.1);
      bit1 = simp w.2 w.0;
      first = w.2;
      second = w.3;
      low = simp w.3 (ltb-false 4 (octet s 1) w.4);
      complete = simp (w.2, w.3) w.5;
      brief = ltb-false 1024 (length s) w.6;
    }

-- octet 0 from its bits
weigh_bit : (d w : ℕ) → d < 2 → weight (eqb d 1) w ≡ w * d
weigh_bit zero w h = sym (mul-zero w)
weigh_bit (suc zero) w h = sym (mul-one w)
weigh_bit (suc (suc d)) w h = absurd (omega arith)

halves : (f a b c d e g h m₀ m₁ m₂ m₃ m₄ m₅ m₆ : ℕ) → f ≡ 2 * a + m₀ → a ≡ 2 * b + m₁ → b ≡ 2 * c + m₂ → c ≡ 2 * d + m₃ → d ≡ 2 * e + m₄ →
    e ≡ 2 * g + m₅ → g ≡ 2 * h + m₆ → m₁ ≡ 0 → 64 * m₆ + 32 * m₅ + 16 * m₄ + 8 * m₃ + 4 * m₂ + 1 * m₀ ≡ f - 128 * h
halves f a b c d e g h m₀ m₁ m₂ m₃ m₄ m₅ m₆ q₀ q₁ q₂ q₃ q₄ q₅ q₆ z₁ = omega arith

flags_back : (F : ℕ) → F / 2 % 2 ≡ 0 →
    weight (bit F 64) 64 + weight (bit F 32) 32 + weight (bit F 16) 16 + weight (bit F 8) 8 + weight (bit F 4) 4 + weight (eqb (F % 2) 1) 1 ≡ F % 128
flags_back F b1 =
    simp (
      weigh_bit (F / 64 % 2) 64 (omega arith),
      weigh_bit (F / 32 % 2) 32 (omega arith),
      weigh_bit (F / 16 % 2) 16 (omega arith),
      weigh_bit (F / 8 % 2) 8 (omega arith),
      weigh_bit (F / 4 % 2) 4 (omega arith),
      weigh_bit (F % 2) 1 (omega arith),
    )
    (halves F (F / 2) (F / 4) (F / 8) (F / 16) (F / 32) (F / 64) (F / 128) (F % 2) (F / 2 % 2) (F / 4 % 2) (F / 8 % 2) (F / 16 % 2) (F / 32 % 2)
    (F / 64 % 2) (omega arith) (omega arith) (omega arith) (omega arith) (omega arith) (omega arith) (omega arith) b1
    ∙ omega arith)

bit_zero : (F w : ℕ) → bit F w ≡ false → F / w % 2 ≡ 0
bit_zero F w e = let h = eqb-false (F / w % 2) 1 e in omega arith

joined : (s h k i r t u : List ℕ) (a b c d e : ℕ) → take 2 s ≡ h → Took s 2 a k → Took s a b i → Took s b c r → Took s c d t → Took s d e u →
    take e s ≡ h ++ k ++ i ++ r ++ t ++ u
joined s h k i r t u a b c d e q₀ q₁ q₂ q₃ q₄ q₅ = q₅.octets ∙ simp (q₄.octets, q₃.octets, q₂.octets, q₁.octets, q₀)

-- all but the first octet
behind : (s : List ℕ) (e x : ℕ) (t : List ℕ) → take e s ≡ x ∷ t → take (e - 1) (drop 1 s) ≡ t
behind s zero x t q = let z : ◌≡◌ {A = ℕ} 0 1 = cc in absurd (omega arith)
behind [] (suc e) x t q = let z : ◌≡◌ {A = ℕ} 0 1 = cc in absurd (omega arith)
behind (y ∷ s) (suc e) x t q = let k : suc e - 1 ≡ e = omega arith in simp k (cc)

-- what taking the reader's answer apart gives, F being octet 0
record Back (s : List ℕ) (F : ℕ) (h : Header) (n : ℕ) : Type 0 where
  writes : encode (message_at s h) ≡ bare_to s h.end
  sound : Sound (message_at s h)
  two : 2 ≤ h.end
  within : h.end ≤ length s
  few : n ≤ 511
  follow : rest_at s (bit F 128) h.end ≡ Ok n

module _ (s : List ℕ) (small : (i : ℕ) → octet s i < 256) (F C : ℕ) (w : Opened s F C) (v : Whole) where
  abbrev headed : Option Place → Option Place → Option Place → Option Place → Option Place → ℕ → Header
  headed k i r t u e = record { multi_shot = eqb (F % 2) 1; confirmation = C; message_type = k; identifier = i; reference = r; sender = t; user_data = u; end = e }

  abbrev answer : Option Place → Option Place → Option Place → Option Place → Option Place → ℕ → ℕ → Result Whole Fault
  answer k i r t u e m = Ok (record { header = headed k i r t u e; extensions = m })

  begins : take 2 s ≡ F ∷ C ∷ []
  begins = take-two s 0 w.two ∙ simp (w.first, w.second)

  module _ (k : Option Place) (a : ℕ) (q₁ : Took s 2 a (type_octets (one_octet (held_at s k))) × (present (one_octet (held_at s k)) ≡ bit F 64)) where
    module _ (i : Option Place) (b : ℕ) (q₂ : Took s a b (number_octets (two_octets (held_at s i))) × (present (two_octets (held_at s i)) ≡ bit F 32)) where
      module _ (r : Option Place) (c : ℕ) (q₃ : Took s b c (number_octets (two_octets (held_at s r))) × (present (two_octets (held_at s r)) ≡ bit F 16)) where
        module _ (t : Option Place) (d : ℕ) (q₄ : Took s c d (sender_octets (held_at s t)) × (present (held_at s t) ≡ bit F 8) × (wrong_sender (held_at s t) ≡ false)) where
          module _ (u : Option Place) (e : ℕ) (q₅ : Took s d e (data_octets (held_at s u)) × (present (held_at s u) ≡ bit F 4) × (wrong_data (held_at s u) ≡ false)) where
            flagged : first_octet false (message_at s (headed k i r t u e)) ≡ octet s 0 % 128
            unfolding first_octet message_at
            flagged = simp (q₁.1, q₂.1, q₃.1, q₄.1, q₅.1, zero-add) (flags_back F (bit_zero F 2 w.bit1) ∙ simp w.first)

            whole : encode (message_at s (headed k i r t u e)) ≡ bare_to s e
            unfolding bare_to message_at
            whole =
                let o₁ = q₁.0.onward in
                let o₂ = q₂.0.onward in
                let o₃ = q₃.0.onward in
                let o₄ = q₄.0.onward in
                let o₅ = q₅.0.onward in
                encode_is (message_at s (headed k i r t u e))
                ∙ simp (
                  le-leb 1 e (omega arith),
                  le-leb e (length s) q₅.0.within,
                  flagged,
                  behind s e F _ (joined s (F ∷ C ∷ []) _ _ _ _ _ a b c d e begins q₁.0 q₂.0 q₃.0 q₄.0 q₅.0),
                )

            passes : Sound (message_at s (headed k i r t u e))
            unfolding message_at
            passes = record {
              confirmation_low = w.low;
              nothing_lacks = simp (q₂.1, q₃.1, q₄.1) w.complete;
              sender_right = q₄.2;
              data_right = q₅.2;
            }

            end₆ : at_end (rest_at s (bit F 128) e) (answer k i r t u e) ≡ Ok v → Back s F v.header v.extensions
            end₆ x =
                let y = ended_inv (rest_at s (bit F 128) e) _ v x in
                let q : ◌≡◌ {A = Whole} (record { header = headed k i r t u e; extensions = y.many }) v = let z = y.then in cc in
                let o₁ = q₁.0.onward in
                let o₂ = q₂.0.onward in
                let o₃ = q₃.0.onward in
                let o₄ = q₄.0.onward in
                let o₅ = q₅.0.onward in
                let few = rest_few s (bit F 128) e y.many (omega arith) q₅.0.within w.brief y.got in
                let b : Back s F (headed k i r t u e) y.many =
                record { writes = whole; sound = passes; two = omega arith; within = q₅.0.within; few = few; follow = y.got } in
                subst (λ (z : Whole). Back s F z.header z.extensions) q b

          end₅ : and_then (data_at s (bit F 4) d) (λ u e. at_end (rest_at s (bit F 128) e) (answer k i r t u e)) ≡ Ok v → Back s F v.header v.extensions
          end₅ x =
              let y = past_inv (data_at s (bit F 4) d) _ v x in
              end₆ y.field y.next (data_inv s small (bit F 4) d y.field y.next q₄.0.within y.got) y.then

        end₄ : and_then (sender_at s (bit F 8) c) (λ t d. and_then (data_at s (bit F 4) d) (λ u e. at_end (rest_at s (bit F 128) e) (answer k i r t u e)))
            ≡ Ok v → Back s F v.header v.extensions
        end₄ x =
            let y = past_inv (sender_at s (bit F 8) c) _ v x in
            end₅ y.field y.next (sender_inv s (bit F 8) c y.field y.next q₃.0.within y.got) y.then

      end₃ : and_then (fixed_at s (bit F 16) 2 b) (λ r c. and_then (sender_at s (bit F 8) c) (λ t d. and_then (data_at s (bit F 4) d) (λ u e.
          at_end (rest_at s (bit F 128) e) (answer k i r t u e)))) ≡ Ok v → Back s F v.header v.extensions
      end₃ x =
          let y = past_inv (fixed_at s (bit F 16) 2 b) _ v x in
          end₄ y.field y.next (number_inv s small (bit F 16) b y.field y.next q₂.0.within y.got) y.then

    end₂ : and_then (fixed_at s (bit F 32) 2 a) (λ i b. and_then (fixed_at s (bit F 16) 2 b) (λ r c. and_then (sender_at s (bit F 8) c) (λ t d.
        and_then (data_at s (bit F 4) d) (λ u e. at_end (rest_at s (bit F 128) e) (answer k i r t u e))))) ≡ Ok v → Back s F v.header v.extensions
    end₂ x =
        let y = past_inv (fixed_at s (bit F 32) 2 a) _ v x in
        end₃ y.field y.next (number_inv s small (bit F 32) a y.field y.next q₁.0.within y.got) y.then

  end₁ : fields_of s F C ≡ Ok v → Back s F v.header v.extensions
  unfolding fields_of
  end₁ x =
      let y = past_inv (fixed_at s (bit F 64) 1 2) _ v x in
      end₂ y.field y.next (type_inv s (bit F 64) 2 y.field y.next w.two y.got) y.then

-- an edition 1 frame has at most 554 octets
pub short : (m : Message) → Sound m → length (encode m) ≤ 554
unfolding encode frame_of
short m w =
    simp length-append
    (omega (arith, type_1 m.message_type, number_2 m.message_identifier, number_2 m.message_reference, sender_33 m.sender w.sender_right, data_514 m.user_data w.data_right))

-- with bit 7 set there is at least one extension field
next_more : (k m : ℕ) (x : Step) (g : ℕ → Result ℕ Fault) → ((next : ℕ) → g next ≡ Ok m → k + 1 ≤ m) → and_then x (λ _ next. g next) ≡ Ok m → k + 1 ≤ m
next_more k m (Ok p) g ih e = ih p.1 e
next_more k m (Err y) g ih e = let z : ◌≡◌ {A = ℕ} 0 1 = cc in absurd (omega arith)

from_most : (turns : ℕ) (s : List ℕ) (at k m : ℕ) → extensions_from turns s at k ≡ Ok m → k ≤ m
unfolding extensions_from
from_most zero s at k m e = let q : k ≡ m = cc in omega arith
from_most (suc turns) s at k m e = step (leb (length s) at) e (λ next q. from_most turns s next (k + 1) m q)
  where
    step : (b : Bool) → pick b (Ok k) (and_then (extension_at s at) (λ _ next. extensions_from turns s next (k + 1))) ≡ Ok m →
        ((next : ℕ) → extensions_from turns s next (k + 1) ≡ Ok m → k + 1 ≤ m) → k ≤ m
    step true e ih = let q : k ≡ m = cc in omega arith
    step false e ih = omega (arith, next_more k m (extension_at s at) _ ih e)

from_more : (turns : ℕ) (s : List ℕ) (at m : ℕ) → 1 ≤ turns → leb (length s) at ≡ false → extensions_from turns s at 0 ≡ Ok m → 1 ≤ m
unfolding extensions_from
from_more zero s at m h b e = absurd (omega arith)
from_more (suc turns) s at m h b e =
    next_more 0 m (extension_at s at) (λ next. extensions_from turns s next 1) (λ next q. from_most turns s next 1 m q) (rw b at e)

rest_clear : (s : List ℕ) (more : Bool) (at : ℕ) → 1 ≤ length s → rest_at s more at ≡ Ok 0 → more ≡ false
unfolding rest_at
rest_clear s false at l e = refl
rest_clear s true at l e = absurd (step (leb (length s) at) refl e)
  where
    step : (b : Bool) → b ≡ leb (length s) at → pick b (Err Incomplete) (extensions_from (length s) s at 0) ≡ Ok 0 → ⊥
    step true q e = let z : ◌≡◌ {A = ℕ} 0 1 = cc in omega arith
    step false q e = omega (arith, from_more (length s) s at 0 l (sym q) e)

-- WHAT IS KNOWN OF A FRAME THAT WAS READ
pub record Known (s : List ℕ) (h : Header) (n : ℕ) : Type 0 where
  -- writing its message gives the frame without its extension fields
  pub writes : encode (message_at s h) ≡ bare_to s h.end
  -- which the writer does not refuse
  pub sound : Sound (message_at s h)
  pub two : 2 ≤ h.end
  pub within : h.end ≤ length s
  pub short : h.end ≤ 554
  -- 1,024 octets hold no more extension fields than these
  pub few : n ≤ 511
  -- without extension fields it is an edition 1 frame, the very octets
  pub whole : n ≡ 0 → bare_to s h.end ≡ s

module _ (s : List ℕ) (small : (i : ℕ) → octet s i < 256) (v : Whole) (e : reading_of s ≡ Ok v) where
  clear : {F C : ℕ} → Opened s F C → Back s F v.header v.extensions → v.extensions ≡ 0 → (length s ≤ v.header.end) × (octet s 0 % 128 ≡ octet s 0)
  clear {F} {C} w b z =
      let two = w.two in
      let c : bit F 128 ≡ false = rest_clear s (bit F 128) v.header.end (omega arith) (b.follow ∙ ap Ok z) in
      let r = rest_inv s v.header.end v.extensions (subst (λ (x : Bool). rest_at s x v.header.end ≡ Ok v.extensions) c b.follow) in
      let k = bit_zero F 128 c in
      let l = small 0 in
      let f = w.first in
      (r.0, omega arith)

  pub known : Known s v.header v.extensions
  unfolding reading_of
  known =
      let o = past_inv (opened s) _ v e in
      let w = opened_inv s o.field o.next o.got in
      let b = end₁ s small o.field o.next w v o.then in
      let l = short (message_at s v.header) b.sound in
      record {
        writes = b.writes;
        sound = b.sound;
        two = b.two;
        within = b.within;
        short = omega (arith, bare-length s v.header.end (omega arith) b.within, ap length b.writes);
        few = b.few;
        whole = λ z. bare_same s v.header.end (omega arith) b.within (clear w b z).0 (clear w b z).1;
      }
