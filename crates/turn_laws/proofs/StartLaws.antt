-- 10 and 11: one law for each way out. Closed by cases on the state and on the frame.
use Rattle.std.specs.Prelude.{None, Option, Some, Result, Ok, Err}
use Prim.Native.Nat.{ℕ, zero, suc, ◌<◌, ◌≤◌}
use mathlib.Core.Path.{◌≡◌, refl, ap, sym, ◌∙◌}
use mathlib.Core.Bool.{Bool, true, false}
use mathlib.Core.List.{List, [], ◌∷◌, ◌++◌, map}
use native.Mathlib.Omega.{arith}
use borrow.Author.Tests.{ne_eqb}
use lib.Dec.{eqb}
use lib.ListN.{length, take}
use Rattle.octets.specs.Choice.{pick}
use Rattle.frame.specs.declared.Header.{Header}
use Rattle.frame.specs.declared.Fault.{Fault}
use Rattle.frame.specs.declared.Whole.{Whole}
use Rattle.frame.specs.Message.{Message}
use Rattle.frame.specs.Faults.{fault_number}
use Rattle.frame.specs.Reading.{reading_of}
use Rattle.frame.specs.Decoding.{message_at}
use Rattle.frame.specs.Stripping.{bare_to}
use Rattle.book.specs.declared.Terms.{Terms}
use Rattle.book.specs.declared.Unit.{Unit as Value}
use Rattle.book.specs.declared.Turn.{Turn}
use Rattle.book.specs.Book.{Frame, msg, Reading, good, bad, Out, give, answer, send, reply, dat, cut, gone, State, idle, single, multi, ending, assoc, Setup, done, ids_of, waiting_of, body_of, ack, with_seen, fall, greet, first_contact, on_start, result_of, single_result, answered_by, refuse_all, begun, on_reply, local}
use Rattle.book.specs.View.{needed, body_in, viewed_as, viewed, reading_in, frame_octets, msg_octets, frame_message, frame_at}
use Rattle.book.specs.Lines.{terms_octets, result_number}
use Rattle.book.specs.Turns.{takes}
use Rattle.book.specs.Picture.{picture, setup_of, state_of, ids_in, padded}
use Rattle.book.specs.Step.{Turned, or_nothing}
use Rattle.book.specs.Ready.{Ready, Reads}
use Rattle.book.proofs.Views.{view_octets, faulty_reading, whole_reading, plain_in, sure_in, plain_view, sure_view, note_view, plain_octets, sure_octets}
use Rattle.said.specs.declared.Pen.{Pen}
use Rattle.said.specs.declared.Note.{Note}
use Rattle.said.specs.Pens.{Laid}
use Rattle.said.specs.Notes.{note_octets, answer_line, AckOf}
use Rattle.turn_laws.specs.Moves.{entered, cleared}
use Rattle.said.specs.Saying.{said, fresh, maintains, seen_lines, greeted}
use Rattle.said.proofs.PenLaws.{laid_none, and_then}
use Rattle.turn_laws.proofs.Moved.{not_taken, take-padded, ids_are, opened_assoc, begun_assoc}
use Rattle.turn_laws.proofs.Gave.{Goes, went, gave, turned_as, seen_first, say_uncertain, say_failed, failed_lines, cleared_idle}
use Rattle.turn_laws.proofs.DataLaws.{ack_octets}

-- ---- "frame or nothing"

pub nothing_is : (f : List ℕ) → length f ≡ 0 → or_nothing f ≡ None
nothing_is [] e = refl
nothing_is (x ∷ f) e = absurd (omega arith)

pub frame_is : (f : List ℕ) → (length f ≡ 0 → ⊥) → or_nothing f ≡ Some (reading_in f)
frame_is [] n = absurd (n refl)
frame_is (x ∷ f) n = refl

-- ---- the rules of 10

idle_is : (s : Setup) (u : Value) (st : State) → u ≡ picture s st → u.state ≡ 0 → u ≡ picture s idle
idle_is s u idle e n = e
idle_is s u (single a w t) e n = let z : ◌≡◌ {A = ℕ} 1 0 = rw e at n in absurd (omega arith)
idle_is s u (multi a k t) e n = let z : ◌≡◌ {A = ℕ} 2 0 = rw e at n in absurd (omega arith)
idle_is s u (ending a w t) e n = let z : ◌≡◌ {A = ℕ} 3 0 = rw e at n in absurd (omega arith)
idle_is s u (assoc a w t) e n = let z : ◌≡◌ {A = ℕ} 4 0 = rw e at n in absurd (omega arith)

start_is : (s : Setup) (u : Value) (st : State) → u ≡ picture s st → takes u.state 4 ≡ true → (a : Terms) (o : Option Reading) → on_start s a o st ≡ first_contact s a o
unfolding on_start takes
start_is s u idle e t a o = refl
start_is s u (single T w t₀) e t a o = not_taken (rw e at t)
start_is s u (multi T k t₀) e t a o = not_taken (rw e at t)
start_is s u (ending T w t₀) e t a o = not_taken (rw e at t)
start_is s u (assoc T w t₀) e t a o = not_taken (rw e at t)

state_0 : (s : Setup) (u : Value) (st : State) → u ≡ picture s st → takes u.state 4 ≡ true → u.state ≡ 0
unfolding takes
state_0 s u idle e t = rw e
state_0 s u (single T w t₀) e t = not_taken (rw e at t)
state_0 s u (multi T k t₀) e t = not_taken (rw e at t)
state_0 s u (ending T w t₀) e t = not_taken (rw e at t)
state_0 s u (assoc T w t₀) e t = not_taken (rw e at t)

module _ (s : Setup) (a : Terms) (f : List ℕ) (h : Header) (n : ℕ) where
  abbrev M : Message
  M = message_at f h

  pub greeted_plain : h.confirmation ≡ 0 → h.multi_shot ≡ false → greeted s a (frame_at f h) n ≡ done idle (with_seen n (give a (plain_in M) ∷ send (reply false None) ∷ []))
  unfolding greeted first_contact message_at body_of greet
  greeted_plain c z = ap (λ (g : Frame). first_contact s a (Some (good g n))) (plain_view M c) ∙ ap (λ (b : Bool). greet s b a n (plain_in M)) z

  pub greeted_sure : h.confirmation ≡ 1 → h.multi_shot ≡ false →
      greeted s a (frame_at f h) n ≡ done idle (with_seen n (give a (sure_in M) ∷ send (reply false (Some (good (ack s (needed M.message_identifier) (body_in M)) 0))) ∷ []))
  unfolding greeted first_contact message_at body_of greet
  greeted_sure c z = ap (λ (g : Frame). first_contact s a (Some (good g n))) (sure_view M c) ∙ ap (λ (b : Bool). greet s b a n (sure_in M)) z

  pub greeted_note : 1 < h.confirmation → greeted s a (frame_at f h) n ≡ done idle (with_seen n (send (cut 10) ∷ []))
  unfolding greeted first_contact message_at
  greeted_note l = ap (λ (g : Frame). first_contact s a (Some (good g n))) (note_view M l)

  pub greeted_multi : h.confirmation ≤ 1 → h.multi_shot ≡ true → greeted s a (frame_at f h) n ≡ done idle (with_seen n (send (cut 10) ∷ []))
  unfolding greeted first_contact message_at body_of greet
  greeted_multi l z = by h.confirmation refl l
    where
      by : (c : ℕ) → h.confirmation ≡ c → c ≤ 1 → first_contact s a (Some (good (frame_at f h) n)) ≡ done idle (with_seen n (send (cut 10) ∷ []))
      by zero e l = ap (λ (g : Frame). first_contact s a (Some (good g n))) (plain_view M e) ∙ ap (λ (b : Bool). greet s b a n (plain_in M)) z
      by (suc zero) e l = ap (λ (g : Frame). first_contact s a (Some (good g n))) (sure_view M e) ∙ ap (λ (b : Bool). greet s b a n (sure_in M)) z
      by (suc (suc c)) e l = absurd (omega arith)

module _ {u : Value} (k : Ready u) where
  abbrev S : Setup
  S = setup_of u

  abbrev T : State
  T = state_of u

  pub idle_value : u.state ≡ 0 → u ≡ picture (setup_of u) idle
  idle_value z = idle_is S u T k.whole z

  pub start_idle : takes u.state 4 ≡ true → u.state ≡ 0
  start_idle t = state_0 S u T k.whole t

  -- ---- the ways out of 10
  pub cut_made : (n : ℕ) {r : Turn} {before mid after : List ℕ} {p q : Pen} → u.state ≡ 0 → Laid before fresh (seen_lines n) mid p → Laid mid p ((0x35 ∷ 10 ∷ []) ∷ []) after q
      → r ≡ record { unit = u; verdict = Ok (record { lines = q.lines; octets = q.at }) } → Turned u (done idle (with_seen n (send (cut 10) ∷ []))) before r after
  cut_made n z x y q = gave refl (idle_value z) (seen_first n (send (cut 10) ∷ [])) (and_then x y) q

  pub fault_made : {reason : ℕ} {r : Turn} {before after : List ℕ} {p : Pen} → u.state ≡ 0 → Laid before fresh ((0x35 ∷ reason ∷ []) ∷ []) after p
      → r ≡ record { unit = u; verdict = Ok (record { lines = p.lines; octets = p.at }) } → Turned u (done idle (send (cut reason) ∷ [])) before r after
  fault_made z x q = gave refl (idle_value z) refl x q

  pub opened : (a : Terms) {v : Value} {r : Turn} {before after : List ℕ} {p : Pen} → u.state ≡ 0 → Laid before fresh ((0x31 ∷ 0 ∷ []) ∷ []) after p → v ≡ entered u 4 a
      → r ≡ record { unit = v; verdict = Ok (record { lines = p.lines; octets = p.at }) } → Turned u (first_contact (setup_of u) a None) before r after
  unfolding first_contact
  opened a z x e q = gave refl (e ∙ opened_assoc S a u (idle_value z)) refl x q

  module _ (a : Terms) {f : List ℕ} {h : Header} {n : ℕ} (w : Reads f h n) (z : u.state ≡ 0) (m : h.multi_shot ≡ false) where
    pub shot_plain : {r : Turn} {before b1 b2 after : List ℕ} {p₁ p₂ p₃ : Pen} → h.confirmation ≡ 0
        → Laid before fresh (seen_lines n) b1 p₁ → Laid b1 p₁ ((0x20 ∷ (terms_octets a ++ bare_to f h.end)) ∷ []) b2 p₂ → Laid b2 p₂ ((0x31 ∷ 1 ∷ []) ∷ []) after p₃
        → r ≡ record { unit = u; verdict = Ok (record { lines = p₃.lines; octets = p₃.at }) } → Turned u (greeted (setup_of u) a (frame_at f h) n) before r after
    shot_plain c x y o q =
        gave (greeted_plain S a f h n c m) (idle_value z)
        (ap (λ l. seen_lines n ++ ((0x20 ∷ (terms_octets a ++ l)) ∷ (0x31 ∷ 1 ∷ []) ∷ [])) (sym (plain_octets f h w c))
        ∙ seen_first n (give a (plain_in (message_at f h)) ∷ send (reply false None) ∷ [])) (and_then x (and_then y o)) q

    pub shot_sure : {g : Note} {r : Turn} {before b1 b2 after : List ℕ} {p₁ p₂ p₃ : Pen} → h.confirmation < 2 → (h.confirmation ≡ 0 → ⊥)
        → Laid before fresh (seen_lines n) b1 p₁ → Laid b1 p₁ ((0x21 ∷ (terms_octets a ++ bare_to f h.end)) ∷ []) b2 p₂ → AckOf f h g
        → Laid b2 p₂ ((0x31 ∷ 1 ∷ note_octets g (take u.letters u.name)) ∷ []) after p₃
        → r ≡ record { unit = u; verdict = Ok (record { lines = p₃.lines; octets = p₃.at }) } → Turned u (greeted (setup_of u) a (frame_at f h) n) before r after
    shot_sure {g = g} l c x y v o q =
        let d : h.confirmation ≡ 1 = omega arith in
        gave (greeted_sure S a f h n d m) (idle_value z)
        (ap (λ l. seen_lines n ++ ((0x21 ∷ (terms_octets a ++ l)) ∷ (0x31 ∷ 1 ∷ note_octets g S.name) ∷ [])) (sym (sure_octets f h w d))
        ∙ ap (λ l. seen_lines n ++ ((0x21 ∷ (terms_octets a ++ msg_octets (sure_in (message_at f h)))) ∷ (0x31 ∷ 1 ∷ l) ∷ [])) (ack_octets S f h g v)
        ∙ seen_first n (give a (sure_in (message_at f h)) ∷ send (reply false (Some (good (ack S (needed (message_at f h).message_identifier) (body_in (message_at f h))) 0))) ∷ []))
        (and_then x (and_then y o)) q

  module _ (a : Terms) (f : List ℕ) (t : takes u.state 4 ≡ true) where
    by_start : {o : Option Reading} → or_nothing f ≡ o → on_start S a (or_nothing f) T ≡ first_contact S a o
    by_start e = start_is S u T k.whole t a (or_nothing f) ∙ ap (first_contact S a) e

    pub start_none : {r : Turn} {before after : List ℕ} → length f ≡ 0 → Turned u (first_contact (setup_of u) a None) before r after → Turned u (on_start (setup_of u) a (or_nothing f) (state_of u)) before r after
    start_none z g = turned_as (by_start (nothing_is f z)) g

    module _ (z : length f ≡ 0 → ⊥) {x : Result Whole Fault} (q : x ≡ reading_of f) where
      pub start_bad : {r : Turn} {before after : List ℕ} {y : Fault} {n : ℕ} → x ≡ Err y → n ≡ fault_number y → Turned u (done idle (send (cut n) ∷ [])) before r after →
          Turned u (on_start (setup_of u) a (or_nothing f) (state_of u)) before r after
      unfolding first_contact
      start_bad {n = n} e en g = turned_as (by_start (frame_is f z ∙ ap Some (faulty_reading f q e ∙ ap bad (sym en)))) g

      pub start_good : {r : Turn} {before after : List ℕ} {v : Whole} → x ≡ Ok v → Turned u (greeted (setup_of u) a (frame_at f v.header) v.extensions) before r after →
          Turned u (on_start (setup_of u) a (or_nothing f) (state_of u)) before r after
      unfolding greeted
      start_good {v = v} e g = turned_as (by_start (frame_is f z ∙ ap Some (whole_reading f v q e))) g

-- ---- the rules of 11

-- 22 with 0 for confirmedOk, else 1, whatever the frame
single_number : (c : ℕ) (m : Message) → result_number (single_result (viewed_as c m)) ≡ pick (eqb c 2) 0 1
unfolding single_result result_of
single_number zero m = refl
single_number (suc zero) m = refl
single_number (suc (suc zero)) m = refl
single_number (suc (suc (suc zero))) m = refl
single_number (suc (suc (suc (suc n)))) m = rw (ne_eqb (suc (suc (suc (suc n)))) 2 (λ z. omega arith))

module _ (s : Setup) (u : Value) where
  -- nobody waits
  answer_none : (st : State) → u ≡ picture s st → u.state ≡ 1 → u.count ≡ 0 → (o : Option Reading) → on_reply s false o st ≡ done idle []
  unfolding on_reply answered_by
  answer_none idle e n c o = let z : ◌≡◌ {A = ℕ} 0 1 = rw e at n in absurd (omega arith)
  answer_none (multi T k t) e n c o = let z : ◌≡◌ {A = ℕ} 2 1 = rw e at n in absurd (omega arith)
  answer_none (ending T w t) e n c o = let z : ◌≡◌ {A = ℕ} 3 1 = rw e at n in absurd (omega arith)
  answer_none (assoc T w t) e n c o = let z : ◌≡◌ {A = ℕ} 4 1 = rw e at n in absurd (omega arith)
  answer_none (single T [] t) e n c o = refl
  answer_none (single T (i ∷ w) t) e n c o = let z : suc (length w) ≡ 0 = rw e at c in absurd (omega arith)

  -- one waits: what is said to it when no valid frame came
  answer_unsure : (st : State) → u ≡ picture s st → u.state ≡ 1 → 1 ≤ u.count →
      (on_reply s false None st ≡ done idle (answered_by s (waiting_of st) None)) × (map (answer_line (say_uncertain false) s.name) (take 1 u.waiting) ≡ said (answered_by s (waiting_of st) None))
  unfolding on_reply answered_by waiting_of padded local note_octets
  answer_unsure idle e n c = let z : ◌≡◌ {A = ℕ} 0 1 = rw e at n in absurd (omega arith)
  answer_unsure (multi T k t) e n c = let z : ◌≡◌ {A = ℕ} 2 1 = rw e at n in absurd (omega arith)
  answer_unsure (ending T w t) e n c = let z : ◌≡◌ {A = ℕ} 3 1 = rw e at n in absurd (omega arith)
  answer_unsure (assoc T w t) e n c = let z : ◌≡◌ {A = ℕ} 4 1 = rw e at n in absurd (omega arith)
  answer_unsure (single T [] t) e n c = let z : ◌≤◌ 1 0 = rw e at c in absurd (omega arith)
  answer_unsure (single T (i ∷ w) t) e n c = (refl, rw e)

  -- a valid frame came
  answer_by : (st : State) → u ≡ picture s st → u.state ≡ 1 → 1 ≤ u.count → (g : Frame) (n : ℕ) →
      (i : ℕ) × (on_reply s false (Some (good g n)) st ≡ done idle (with_seen n (answer i (single_result g) g ∷ [])))
  unfolding on_reply answered_by
  answer_by idle e z c g n = let y : ◌≡◌ {A = ℕ} 0 1 = rw e at z in absurd (omega arith)
  answer_by (multi T k t) e z c g n = let y : ◌≡◌ {A = ℕ} 2 1 = rw e at z in absurd (omega arith)
  answer_by (ending T w t) e z c g n = let y : ◌≡◌ {A = ℕ} 3 1 = rw e at z in absurd (omega arith)
  answer_by (assoc T w t) e z c g n = let y : ◌≡◌ {A = ℕ} 4 1 = rw e at z in absurd (omega arith)
  answer_by (single T [] t) e z c g n = let y : ◌≤◌ 1 0 = rw e at c in absurd (omega arith)
  answer_by (single T (i ∷ w) t) e z c g n = (i, refl)

  -- a faulty frame is as good as none
  answer_bad : (st : State) → u ≡ picture s st → u.state ≡ 1 → (n : ℕ) → on_reply s false (Some (bad n)) st ≡ on_reply s false None st
  unfolding on_reply answered_by
  answer_bad idle e z n = refl
  answer_bad (multi T k t) e z n = refl
  answer_bad (ending T w t) e z n = refl
  answer_bad (assoc T w t) e z n = refl
  answer_bad (single T [] t) e z n = refl
  answer_bad (single T (i ∷ w) t) e z n = refl

  accepted_single : (st : State) → u ≡ picture s st → takes u.state 5 ≡ true → (u.state ≡ 2 → ⊥) → (o : Option Reading) →
      on_reply s true o st ≡ fall s (maintains st) (waiting_of st) 10
  unfolding on_reply takes waiting_of
  accepted_single idle e t n o = not_taken (rw e at t)
  accepted_single (single T w t₀) e t n o = refl
  accepted_single (multi T k t₀) e t n o = absurd (n (rw e))
  accepted_single (ending T w t₀) e t n o = not_taken (rw e at t)
  accepted_single (assoc T w t₀) e t n o = not_taken (rw e at t)

  state_1 : (st : State) → u ≡ picture s st → takes u.state 5 ≡ true → (u.state ≡ 2 → ⊥) → u.state ≡ 1
  unfolding takes
  state_1 idle e t n = not_taken (rw e at t)
  state_1 (single T w t₀) e t n = rw e
  state_1 (multi T k t₀) e t n = absurd (n (rw e))
  state_1 (ending T w t₀) e t n = not_taken (rw e at t)
  state_1 (assoc T w t₀) e t n = not_taken (rw e at t)

  begun_goes : (st : State) → u ≡ picture s st → u.state ≡ 2 →
      (os : List Out) × Goes s (on_reply s true None st) (entered u 4 u.terms) os × ((0x32 ∷ take u.octets u.kept) ∷ [] ≡ said os)
  unfolding on_reply begun frame_octets frame_message msg_octets
  begun_goes idle e n = let z : ◌≡◌ {A = ℕ} 0 2 = rw e at n in absurd (omega arith)
  begun_goes (single T w t) e n = let z : ◌≡◌ {A = ℕ} 1 2 = rw e at n in absurd (omega arith)
  begun_goes (ending T w t) e n = let z : ◌≡◌ {A = ℕ} 3 2 = rw e at n in absurd (omega arith)
  begun_goes (assoc T w t) e n = let z : ◌≡◌ {A = ℕ} 4 2 = rw e at n in absurd (omega arith)
  begun_goes (multi T k t) e n = (
    send (dat (good (msg k) 0)) ∷ [],
    record { next = assoc T (ids_of k) 0; outcome = refl; value = begun_assoc s T k t u e },
    rw (e, take-padded 554 (msg_octets k)),
  )

  begun_octets : (st : State) → u ≡ picture s st → u.state ≡ 2 → (o : Reading) → on_reply s true (Some o) st ≡ fall s (maintains st) (waiting_of st) 10
  unfolding on_reply begun waiting_of
  begun_octets idle e n o = let z : ◌≡◌ {A = ℕ} 0 2 = rw e at n in absurd (omega arith)
  begun_octets (single T w t) e n o = let z : ◌≡◌ {A = ℕ} 1 2 = rw e at n in absurd (omega arith)
  begun_octets (ending T w t) e n o = let z : ◌≡◌ {A = ℕ} 3 2 = rw e at n in absurd (omega arith)
  begun_octets (assoc T w t) e n o = let z : ◌≡◌ {A = ℕ} 4 2 = rw e at n in absurd (omega arith)
  begun_octets (multi T k t) e n o = refl

  turned_is : (st : State) → u ≡ picture s st → u.state ≡ 2 → (o : Option Reading) → on_reply s false o st ≡ done idle (refuse_all s (waiting_of st) (gone 3 ∷ []))
  unfolding on_reply waiting_of
  turned_is idle e n o = let z : ◌≡◌ {A = ℕ} 0 2 = rw e at n in absurd (omega arith)
  turned_is (single T w t) e n o = let z : ◌≡◌ {A = ℕ} 1 2 = rw e at n in absurd (omega arith)
  turned_is (ending T w t) e n o = let z : ◌≡◌ {A = ℕ} 3 2 = rw e at n in absurd (omega arith)
  turned_is (assoc T w t) e n o = let z : ◌≡◌ {A = ℕ} 4 2 = rw e at n in absurd (omega arith)
  turned_is (multi T k t) e n o = refl

-- ---- the ways out of 11

module _ {u : Value} (k : Ready u) where
  abbrev S₂ : Setup
  S₂ = setup_of u

  abbrev T₂ : State
  T₂ = state_of u

  pub reply_single : takes u.state 5 ≡ true → (u.state ≡ 2 → ⊥) → u.state ≡ 1
  reply_single t n = state_1 S₂ u T₂ k.whole t n

  pub nobody_waits : (f : List ℕ) {v : Value} {r : Turn} {before : List ℕ} → u.state ≡ 1 → u.count ≡ 0 → v ≡ cleared u → r ≡ record { unit = v; verdict = Ok (record { lines = 0; octets = 0 }) }
      → Turned u (on_reply (setup_of u) false (or_nothing f) (state_of u)) before r before
  nobody_waits f n c e q = gave (answer_none S₂ u T₂ k.whole n c (or_nothing f)) (cleared_idle k e) refl (laid_none _ fresh) q

  pub unanswered : {v : Value} {r : Turn} {before after : List ℕ} {p : Pen} → u.state ≡ 1 → 1 ≤ u.count
      → Laid before fresh (map (answer_line (say_uncertain false) (take u.letters u.name)) (take 1 u.waiting)) after p → v ≡ cleared u
      → r ≡ record { unit = v; verdict = Ok (record { lines = p.lines; octets = p.at }) } → Turned u (on_reply (setup_of u) false None (state_of u)) before r after
  unanswered n c x e q =
      let w = answer_unsure S₂ u T₂ k.whole n c in
      gave w.0 (cleared_idle k e) w.1 x q

  pub answered : {f : List ℕ} {h : Header} {n : ℕ} {v : Value} {r : Turn} {before mid after : List ℕ} {p₁ p₂ : Pen} → u.state ≡ 1 → 1 ≤ u.count → Reads f h n
      → Laid before fresh (seen_lines n) mid p₁ → Laid mid p₁ ((34 ∷ pick (eqb h.confirmation 2) 0 1 ∷ bare_to f h.end) ∷ []) after p₂ → v ≡ cleared u
      → r ≡ record { unit = v; verdict = Ok (record { lines = p₂.lines; octets = p₂.at }) }
      → Turned u (on_reply (setup_of u) false (Some (good (frame_at f h) n)) (state_of u)) before r after
  unfolding viewed message_at
  answered {f} {h} {n} z c w x y e q =
      let b = answer_by S₂ u T₂ k.whole z c (frame_at f h) n in
      gave b.1 (cleared_idle k e)
      (ap (λ l. seen_lines n ++ ((34 ∷ pick (eqb h.confirmation 2) 0 1 ∷ l) ∷ [])) (sym (view_octets f h w))
      ∙ ap (λ l. seen_lines n ++ ((34 ∷ l ∷ frame_octets (frame_at f h)) ∷ [])) (sym (single_number h.confirmation (message_at f h)))
      ∙ seen_first n (answer b.0 (single_result (frame_at f h)) (frame_at f h) ∷ [])) (and_then x y) q

  module _ (f : List ℕ) {r : Turn} {before after : List ℕ} where
    pub answer_nothing : length f ≡ 0 → Turned u (on_reply (setup_of u) false None (state_of u)) before r after →
        Turned u (on_reply (setup_of u) false (or_nothing f) (state_of u)) before r after
    answer_nothing z g = turned_as (ap (λ o. on_reply S₂ false o T₂) (nothing_is f z)) g

    module _ (z : length f ≡ 0 → ⊥) {x : Result Whole Fault} (q : x ≡ reading_of f) where
      pub answer_faulty : {y : Fault} → u.state ≡ 1 → x ≡ Err y → Turned u (on_reply (setup_of u) false None (state_of u)) before r after →
          Turned u (on_reply (setup_of u) false (or_nothing f) (state_of u)) before r after
      answer_faulty n e g = turned_as (ap (λ o. on_reply S₂ false o T₂) (frame_is f z ∙ ap Some (faulty_reading f q e)) ∙ answer_bad S₂ u T₂ k.whole n _) g

      pub answer_whole : {v : Whole} → x ≡ Ok v → Turned u (on_reply (setup_of u) false (Some (good (frame_at f v.header) v.extensions)) (state_of u)) before r after →
          Turned u (on_reply (setup_of u) false (or_nothing f) (state_of u)) before r after
      answer_whole {v} e g = turned_as (ap (λ o. on_reply S₂ false o T₂) (frame_is f z ∙ ap Some (whole_reading f v q e))) g

  -- ---- in Start-multi
  pub began : {v : Value} {r : Turn} {before after : List ℕ} {p : Pen} → u.state ≡ 2 → Laid before fresh ((50 ∷ take u.octets u.kept) ∷ []) after p → v ≡ entered u 4 u.terms
      → r ≡ record { unit = v; verdict = Ok (record { lines = p.lines; octets = p.at }) } → Turned u (on_reply (setup_of u) true None (state_of u)) before r after
  began n x e q = let b = begun_goes S₂ u T₂ k.whole n in went b.1 e b.2 x q

  pub turned_down : {v : Value} {r : Turn} {before mid after : List ℕ} {p₁ p₂ : Pen} → u.state ≡ 2
      → Laid before fresh (map (answer_line say_failed (take u.letters u.name)) (ids_in u)) mid p₁ → Laid mid p₁ ((0x24 ∷ 3 ∷ []) ∷ []) after p₂ → v ≡ cleared u
      → r ≡ record { unit = v; verdict = Ok (record { lines = p₂.lines; octets = p₂.at }) } → Turned u (on_reply (setup_of u) false None (state_of u)) before r after
  turned_down n x y e q =
      gave (turned_is S₂ u T₂ k.whole n None) (cleared_idle k e)
      (ap (λ w. map (answer_line say_failed S₂.name) w ++ ((0x24 ∷ 3 ∷ []) ∷ [])) (ids_are S₂ u T₂ k.whole) ∙ failed_lines S₂ (waiting_of T₂) (gone 3 ∷ [])) (and_then x y) q

  module _ (f : List ℕ) {b : Bool} {r : Turn} {before after : List ℕ} where
    pub multi_begun : b ≡ true → length f ≡ 0 → Turned u (on_reply (setup_of u) true None (state_of u)) before r after →
        Turned u (on_reply (setup_of u) b (or_nothing f) (state_of u)) before r after
    multi_begun e z g = turned_as (ap (λ (y : Bool). on_reply S₂ y (or_nothing f) T₂) e ∙ ap (λ o. on_reply S₂ true o T₂) (nothing_is f z)) g

    pub multi_octets : u.state ≡ 2 → b ≡ true → (length f ≡ 0 → ⊥) → Turned u (fall (setup_of u) (maintains (state_of u)) (waiting_of (state_of u)) 10) before r after →
        Turned u (on_reply (setup_of u) b (or_nothing f) (state_of u)) before r after
    multi_octets n e z g =
        turned_as (ap (λ (y : Bool). on_reply S₂ y (or_nothing f) T₂) e ∙ ap (λ o. on_reply S₂ true o T₂) (frame_is f z) ∙ begun_octets S₂ u T₂ k.whole n _) g

    pub multi_rejected : u.state ≡ 2 → b ≡ false → Turned u (on_reply (setup_of u) false None (state_of u)) before r after →
        Turned u (on_reply (setup_of u) b (or_nothing f) (state_of u)) before r after
    multi_rejected n e g =
        turned_as (ap (λ (y : Bool). on_reply S₂ y (or_nothing f) T₂) e ∙ turned_is S₂ u T₂ k.whole n (or_nothing f) ∙ sym (turned_is S₂ u T₂ k.whole n None)) g

    pub single_accepted : takes u.state 5 ≡ true → (u.state ≡ 2 → ⊥) → b ≡ true → Turned u (fall (setup_of u) (maintains (state_of u)) (waiting_of (state_of u)) 10) before r after →
        Turned u (on_reply (setup_of u) b (or_nothing f) (state_of u)) before r after
    single_accepted t n e g = turned_as (ap (λ (y : Bool). on_reply S₂ y (or_nothing f) T₂) e ∙ accepted_single S₂ u T₂ k.whole t n (or_nothing f)) g

    pub single_rejected : b ≡ false → Turned u (on_reply (setup_of u) false (or_nothing f) (state_of u)) before r after →
        Turned u (on_reply (setup_of u) b (or_nothing f) (state_of u)) before r after
    single_rejected e g = turned_as (ap (λ (y : Bool). on_reply S₂ y (or_nothing f) T₂) e) g
