-- Laws of the frame's calls: the block that is written, the writer's message, and each way out of the writer's call.
use Rattle.std.specs.Prelude.{None, Option, Some, Result, Ok, Err}
use Rattle.std.specs.Bool.{then_some}
use Rattle.std.specs.Option.{option_copied}
use Prim.Native.Nat.{ℕ, ◌+◌, ◌<◌, ◌≤◌}
use mathlib.Core.Path.{◌≡◌, refl, ap, sym, ◌∙◌}
use mathlib.Core.Bool.{Bool, true, false}
use mathlib.Core.List.{List, [], ◌∷◌, ◌++◌}
use native.Mathlib.Omega.{arith}
use borrow.Author.Tests.{lt-ltb, le-ltb}
use denote.Ref.{Bor}
use lib.Dec.{ltb}
use lib.ListN.{length}
use lib.Seq.{sets}
use mir.Val.{bool_byte}
use Rattle.octets.specs.Choice.{pick, either}
use Rattle.octets.proofs.Puts.{sets-append}
use Rattle.frame.specs.Message.{Message}
use Rattle.frame.specs.Encoding.{weight, encode}
use Rattle.frame.specs.Reading.{bit}
use Rattle.frame.specs.Writing.{message_of, fault_in, refusal_of, Allowed, answered, Wrote}
use Rattle.frame.specs.Faults.{refusal_number}
use Rattle.frame.proofs.Laws.{short}
use Rattle.frame.specs.declared.Header.{Header}
use Rattle.frame.specs.declared.Place.{Place}
use Rattle.frame.specs.declared.Refusal.{Refusal}
use Rattle.frame.specs.declared.Refusal.TheVariants.{NoRoom}
use Rattle.embed.specs.Answer.{refused}
use Rattle.embed.specs.Fields.{pair, field_octets, block_of, message_in, write_refusal, write_number, Writes}

-- ---- the block

pub field_long : (f : Option Place) → length (field_octets f) ≡ 4
unfolding field_octets
field_long None = refl
field_long (Some p) = refl

one_octet : (b : Bool) → bool_byte b ≡ weight b 1
one_octet true = refl
one_octet false = refl

-- one part more
join : (l a b : List ℕ) (i n : ℕ) → i + length a ≡ n → sets (sets l i a) n b ≡ sets l i (a ++ b)
join l a b i n e = ap (λ k. sets (sets l i a) k b) (sym e) ∙ sym (sets-append a b l i)

pub block_put : (h : Header) (n : ℕ) (l : List ℕ) {s : ℕ} {t₁ t₂ t₃ t₄ t₅ w a b c d e f r : List ℕ} → s ≡ bool_byte h.multi_shot
    → a ≡ sets l 0 (s ∷ h.confirmation ∷ []) → t₁ ≡ field_octets h.message_type → b ≡ sets a 2 t₁ → t₂ ≡ field_octets h.identifier → c ≡ sets b 6 t₂
    → t₃ ≡ field_octets h.reference → d ≡ sets c 10 t₃ → t₄ ≡ field_octets h.sender → e ≡ sets d 14 t₄ → t₅ ≡ field_octets h.user_data
    → f ≡ sets e 18 t₅ → w ≡ pair h.end ++ pair n → r ≡ sets f 22 w → r ≡ sets l 0 (block_of h n)
unfolding block_of
block_put h n l {s} {t₁} {t₂} {t₃} {t₄} {t₅} {w} {a} {b} {c} {d} {e} {f} hs h₀ e₁ h₁ e₂ h₂ e₃ h₃ e₄ h₄ e₅ h₅ hz h₆ =
    let o = s ∷ h.confirmation ∷ [] in
    let l₁ : length t₁ ≡ 4 = rw e₁ (field_long h.message_type) in
    let l₂ : length t₂ ≡ 4 = rw e₂ (field_long h.identifier) in
    let l₃ : length t₃ ≡ 4 = rw e₃ (field_long h.reference) in
    let l₄ : length t₄ ≡ 4 = rw e₄ (field_long h.sender) in
    let l₅ : length t₅ ≡ 4 = rw e₅ (field_long h.user_data) in
    let g₅ : sets (sets e 18 t₅) 22 w ≡ sets e 18 (t₅ ++ w) = join e t₅ w 18 22 (omega (arith, l₅)) in
    let g₄ : sets (sets d 14 t₄) 18 (t₅ ++ w) ≡ sets d 14 (t₄ ++ (t₅ ++ w)) = join d t₄ (t₅ ++ w) 14 18 (omega (arith, l₄)) in
    let g₃ : sets (sets c 10 t₃) 14 (t₄ ++ (t₅ ++ w)) ≡ sets c 10 (t₃ ++ (t₄ ++ (t₅ ++ w)))
    = join c t₃ (t₄ ++ (t₅ ++ w)) 10 14 (omega (arith, l₃)) in
    let g₂ : sets (sets b 6 t₂) 10 (t₃ ++ (t₄ ++ (t₅ ++ w))) ≡ sets b 6 (t₂ ++ (t₃ ++ (t₄ ++ (t₅ ++ w))))
    = join b t₂ (t₃ ++ (t₄ ++ (t₅ ++ w))) 6 10 (omega (arith, l₂)) in
    let g₁ : sets (sets a 2 t₁) 6 (t₂ ++ (t₃ ++ (t₄ ++ (t₅ ++ w)))) ≡ sets a 2 (t₁ ++ (t₂ ++ (t₃ ++ (t₄ ++ (t₅ ++ w)))))
    = join a t₁ (t₂ ++ (t₃ ++ (t₄ ++ (t₅ ++ w)))) 2 6 (omega (arith, l₁)) in
    let g₀ : sets (sets l 0 o) 2 (t₁ ++ (t₂ ++ (t₃ ++ (t₄ ++ (t₅ ++ w))))) ≡ sets l 0 (o ++ (t₁ ++ (t₂ ++ (t₃ ++ (t₄ ++ (t₅ ++ w))))))
    = join l o (t₁ ++ (t₂ ++ (t₃ ++ (t₄ ++ (t₅ ++ w))))) 0 2 refl in
    h₆ ∙ ap (λ x. sets x 22 w) h₅ ∙ g₅
    ∙ ap (λ x. sets x 18 (t₅ ++ w)) h₄ ∙ g₄
    ∙ ap (λ x. sets x 14 (t₄ ++ (t₅ ++ w))) h₃ ∙ g₃
    ∙ ap (λ x. sets x 10 (t₃ ++ (t₄ ++ (t₅ ++ w)))) h₂ ∙ g₂
    ∙ ap (λ x. sets x 6 (t₂ ++ (t₃ ++ (t₄ ++ (t₅ ++ w))))) h₁ ∙ g₁
    ∙ ap (λ x. sets x 2 (t₁ ++ (t₂ ++ (t₃ ++ (t₄ ++ (t₅ ++ w)))))) h₀ ∙ g₀
    ∙ rw (hs, one_octet h.multi_shot, e₁, e₂, e₃, e₄, e₅, hz)

-- ---- the writer's message

copied : (b : Bool) (x : Bor (List ℕ)) → option_copied (then_some b x) ≡ then_some b x.now
copied true x = refl
copied false x = refl

-- what the parts say that are made of the flags and the values
pub message_is : (flags confirmation type identifier reference : ℕ) (sender user : Bor (List ℕ)) {b₀ b₁ b₂ b₃ b₄ b₅ : Bool} {t i r : Option ℕ}
    {s u : Option (Bor (List ℕ))} → b₀ ≡ bit flags 1 → b₁ ≡ bit flags 64 → t ≡ then_some b₁ type → b₂ ≡ bit flags 32 → i ≡ then_some b₂ identifier
    → b₃ ≡ bit flags 16 → r ≡ then_some b₃ reference → b₄ ≡ bit flags 8 → s ≡ then_some b₄ sender → b₅ ≡ bit flags 4 → u ≡ then_some b₅ user
    → message_of (record { multi_shot = b₀; confirmation = confirmation; message_type = t; identifier = i; reference = r; sender = s; user_data = u })
    ≡ message_in flags confirmation type identifier reference sender.now user.now
unfolding message_in
message_is flags confirmation type identifier reference sender user e₀ e₁ h₁ e₂ h₂ e₃ h₃ e₄ h₄ e₅ h₅ =
    rw (h₁, h₂, h₃, h₄, h₅, e₀, e₁, e₂, e₃, e₄, e₅, copied (bit flags 8) sender, copied (bit flags 4) user)

-- ---- the writer's call

module _ (flags : ℕ) (m : Message) (before : List ℕ) where
  pub write_short : length before < 1024 → {n x : ℕ} → n ≡ 6 → x ≡ refused n → Writes flags m before x before
  unfolding write_refusal write_number
  write_short h e q = record { number = rw (lt-ltb (length before) 1024 h) (q ∙ ap refused e); buffer = rw (lt-ltb (length before) 1024 h) }

  module _ (h : 1024 ≤ length before) where
    pub write_stray : either (bit flags 128) (bit flags 2) ≡ true → {n x : ℕ} → n ≡ 13 → x ≡ refused n → Writes flags m before x before
    unfolding write_refusal write_number
    write_stray t e q = record { number = rw (le-ltb (length before) 1024 h, t) (q ∙ ap refused e); buffer = rw (le-ltb (length before) 1024 h, t) }

    module _ (t : either (bit flags 128) (bit flags 2) ≡ false) {w : Result ℕ Refusal} {after : List ℕ}
        (d : Wrote (refusal_of (length before) m) (encode m) before after w) where
      same : refusal_of (length before) m ≡ write_refusal (length before) flags m
      unfolding write_refusal refusal_of
      same = rw (le-ltb (length before) 1024 h, t)

      writes : Wrote (write_refusal (length before) flags m) (encode m) before after w
      writes = rw same at d

      pub write_done : {n : ℕ} → w ≡ Ok n → Writes flags m before n after
      unfolding write_number
      write_done e = record { number = rw (← writes.answers, e); buffer = writes.leaves }

      pub write_refused : {r : Refusal} {n x : ℕ} → w ≡ Err r → n ≡ refusal_number r → x ≡ refused n → Writes flags m before x after
      unfolding write_number
      write_refused e p q = record { number = q ∙ ap refused p ∙ rw (← writes.answers, e); buffer = writes.leaves }

-- an edition 1 frame's length has room in a number
allowed : (room : ℕ) (m : Message) → refusal_of room m ≡ None → Allowed m
unfolding refusal_of
allowed room m e = go (ltb room 1024) e
  where
    go : (b : Bool) → pick b (Some NoRoom) (fault_in m) ≡ None → Allowed m
    go true q = let z : ◌≡◌ {A = ℕ} 0 1 = cc in absurd (omega arith)
    go false q = q

pub write_small : (room : ℕ) (m : Message) (before after : List ℕ) {w : Result ℕ Refusal} {n : ℕ} → Wrote (refusal_of room m) (encode m) before after w → w ≡ Ok n → n ≤ 554
write_small room m before after {w} {n} p e = go (refusal_of room m) refl (sym p.answers ∙ e)
  where
    go : (o : Option Refusal) → refusal_of room m ≡ o → answered o (encode m) ≡ Ok n → n ≤ 554
    go None q z = let s = short m (allowed room m q) in let k : length (encode m) ≡ n = cc in omega arith
    go (Some r) q z = let z : ◌≡◌ {A = ℕ} 0 1 = cc in absurd (omega arith)
