-- 12 D-DATA indication: one law for each way out. Closed by cases on the state and on where the reference stands.
use Rattle.std.specs.Prelude.{None, Option, Some, Result, Ok, Err}
use Rattle.std.specs.Option.{option_map}
use Prim.Native.Nat.{ℕ, zero, suc, ◌+◌, ◌<◌, ◌≤◌, ◌/◌, ◌%◌}
use mathlib.Core.Path.{◌≡◌, refl, ap, sym, ◌∙◌}
use mathlib.Core.Bool.{Bool, true, false}
use mathlib.Core.List.{List, [], ◌∷◌, ◌++◌, append-nil}
use native.Mathlib.Omega.{arith}
use borrow.Author.Tests.{ne_eqb}
use lib.Dec.{eqb}
use lib.ListN.{length, take, drop}
use lib.Seq.{length-take-le}
use Rattle.octets.specs.Choice.{pick}
use Rattle.frame.specs.declared.Header.{Header}
use Rattle.frame.specs.declared.Fault.{Fault}
use Rattle.frame.specs.declared.Whole.{Whole}
use Rattle.frame.specs.Message.{Message}
use Rattle.frame.specs.Faults.{fault_number}
use Rattle.frame.specs.Reading.{reading_of}
use Rattle.frame.specs.Decoding.{message_at, two_octets, held_at}
use Rattle.frame.specs.Stripping.{bare_to}
use Rattle.book.specs.declared.Unit.{Unit as Value}
use Rattle.book.specs.declared.Turn.{Turn}
use Rattle.book.specs.Book.{Body, plain, sure, Kind, ok, Frame, msg, note, good, bad, give, answer, send, dat, State, idle, single, multi, ending, assoc, Setup, waiting_of, without, without_in, ack, ack_body, with_seen, noted, left_waiting, result_of, fall, on_dat}
use Rattle.book.specs.View.{needed, body_in, reading_in, frame_octets, msg_octets, frame_at, kind_for}
use Rattle.book.specs.Lines.{terms_octets, result_number}
use Rattle.book.specs.Turns.{takes}
use Rattle.book.specs.Waiting.{place_of}
use Rattle.book.specs.Picture.{picture, setup_of, state_of, ids_in}
use Rattle.book.specs.Step.{Turned}
use Rattle.book.specs.Ready.{Ready, Reads}
use Rattle.book.proofs.Views.{view_octets, faulty_reading, whole_reading, plain_in, sure_in, note_in, plain_view, sure_view, note_view, plain_octets, sure_octets}
use Rattle.said.specs.declared.Pen.{Pen}
use Rattle.said.specs.declared.Note.{Note}
use Rattle.said.specs.Pens.{Laid}
use Rattle.said.specs.Notes.{note_frame, note_octets, AckOf}
use Rattle.turn_laws.specs.Moves.{rested, removed, advanced}
use Rattle.said.specs.Saying.{fresh, maintains, seen_lines}
use Rattle.said.proofs.PenLaws.{laid_none, laid_as, and_then}
use Rattle.turn_laws.proofs.Moved.{not_taken, ids_are, rested_assoc, rested_ending, removed_assoc, removed_ending}
use Rattle.turn_laws.proofs.Gave.{Goes, went, turned_as, seen_first}

-- ---- line 25

pub seen_none : (b : List ℕ) (n : ℕ) → n ≡ 0 → Laid b fresh (seen_lines n) b fresh
unfolding seen_lines with_seen
seen_none b n e = rw e (laid_none b fresh)

seen_line : (n : ℕ) → (n ≡ 0 → ⊥) → n ≤ 511 → (0x25 ∷ n / 256 % 256 ∷ n % 256 ∷ []) ∷ [] ≡ seen_lines n
unfolding seen_lines with_seen
seen_line zero z h = absurd (z refl)
seen_line (suc n) z h = let k : suc n / 256 % 256 ≡ suc n / 256 = omega arith in rw k

pub seen_some : (n : ℕ) {b a : List ℕ} {p : Pen} → (n ≡ 0 → ⊥) → n ≤ 511 → Laid b fresh ((0x25 ∷ n / 256 % 256 ∷ n % 256 ∷ []) ∷ []) a p → Laid b fresh (seen_lines n) a p
seen_some n z h l = laid_as (seen_line n z h) l

-- ---- a message that was heard, as the note that acknowledges it

ack_fields : (a : Note) (m : Message) (name : List ℕ) → a.multi_shot ≡ m.multi_shot → a.message_type ≡ m.message_type →
    a.reference ≡ needed m.message_identifier → a.confirmation ≡ 2 →
    note_frame a name ≡ note ok (needed m.message_identifier) None name (record { maintained = m.multi_shot; type = m.message_type; user_data = None })
ack_fields a m name es et er ec = rw (es, et, er, ec)

pub ack_octets : (s : Setup) (f : List ℕ) (h : Header) (a : Note) → AckOf f h a →
    note_octets a s.name ≡ frame_octets (ack s (needed (message_at f h).message_identifier) (body_in (message_at f h)))
unfolding note_octets ack ack_body
ack_octets s f h a k = ap frame_octets (ack_fields a (message_at f h) s.name k.shot k.type k.reference k.confirmation)

-- ---- where a reference stands

pick_next : (b : Bool) (f g : Option ℕ) → pick b (option_map suc f) (option_map suc g) ≡ option_map suc (pick b f g)
pick_next true f g = refl
pick_next false f g = refl

place_next : (x k : ℕ) (w : List ℕ) → place_of x (suc k) w ≡ option_map suc (place_of x k w)
place_next x k [] = refl
place_next x k (y ∷ w) = rw (place_next x (suc k) w) (pick_next (eqb x y) (Some k) (place_of x (suc k) w))

cut_out : List ℕ → Option ℕ → Option (List ℕ)
cut_out w None = None
cut_out w (Some i) = Some (take i w ++ drop (suc i) w)

cut_step : (b : Bool) (y : ℕ) (w : List ℕ) (f : Option ℕ) → without_in b y w (cut_out w f) ≡ cut_out (y ∷ w) (pick b (Some 0) (option_map suc f))
unfolding cut_out without_in
cut_step true y w f = refl
cut_step false y w None = refl
cut_step false y w (Some i) = refl

without_found : (x : ℕ) (w : List ℕ) → without x w ≡ cut_out w (place_of x 0 w)
unfolding without cut_out
without_found x [] = refl
without_found x (y ∷ w) = rw (without_found x w, place_next x 0 w) (cut_step (eqb x y) y w (place_of x 0 w))

pub without_none : (x : ℕ) (w : List ℕ) → place_of x 0 w ≡ None → without x w ≡ None
unfolding cut_out
without_none x w e = without_found x w ∙ ap (cut_out w) e

pub without_some : (x i : ℕ) (w : List ℕ) → place_of x 0 w ≡ Some i → without x w ≡ Some (take i w ++ drop (suc i) w)
unfolding cut_out
without_some x i w e = without_found x w ∙ ap (cut_out w) e

place_at : (b : Bool) (rest : Option ℕ) (k i n : ℕ) → pick b (Some k) rest ≡ Some i → (rest ≡ Some i → i < suc k + n) → i < k + suc n
place_at true rest k i n e ih = let g : k ≡ i = cc in omega arith
place_at false rest k i n e ih = omega (arith, ih e)

place_from : (x k i : ℕ) (l : List ℕ) → place_of x k l ≡ Some i → i < k + length l
place_from x k i [] e = let z : ◌≡◌ {A = ℕ} 0 1 = cc in absurd (omega arith)
place_from x k i (y ∷ l) e = place_at (eqb x y) (place_of x (suc k) l) k i (length l) e (λ f. place_from x (suc k) i l f)

pub place_below : (x i : ℕ) (l : List ℕ) → place_of x 0 l ≡ Some i → i < length l
place_below x i l e = omega (arith, place_from x 0 i l e)

-- ---- the rules, by the state

module _ (s : Setup) (u : Value) where
  plain_goes : (st : State) → u ≡ picture s st → takes u.state 6 ≡ true → (i r : Option ℕ) (q : Option (List ℕ)) (b : Body) (n : ℕ) →
      Goes s (on_dat s (good (msg (plain i r q b)) n) st) (rested u) (with_seen n (give u.terms (plain i r q b) ∷ []))
  unfolding on_dat takes
  plain_goes idle e t i r q b n = not_taken (rw e at t)
  plain_goes (single a w t₀) e t i r q b n = not_taken (rw e at t)
  plain_goes (multi a k t₀) e t i r q b n = not_taken (rw e at t)
  plain_goes (ending a w t₀) e t i r q b n = record { next = ending a w t₀; outcome = rw e; value = rested_ending s a w t₀ u e }
  plain_goes (assoc a w t₀) e t i r q b n = record { next = assoc a w 0; outcome = rw e; value = rested_assoc s a w t₀ u e }

  sure_ending : (st : State) → u ≡ picture s st → takes u.state 6 ≡ true → (u.state ≡ 4 → ⊥) → (i : ℕ) (r : Option ℕ) (q : Option (List ℕ)) (b : Body) (n : ℕ) →
      Goes s (on_dat s (good (msg (sure i r q b)) n) st) (rested u) (with_seen n (give u.terms (sure i r q b) ∷ []))
  unfolding on_dat takes
  sure_ending idle e t z i r q b n = not_taken (rw e at t)
  sure_ending (single a w t₀) e t z i r q b n = not_taken (rw e at t)
  sure_ending (multi a k t₀) e t z i r q b n = not_taken (rw e at t)
  sure_ending (ending a w t₀) e t z i r q b n = record { next = ending a w t₀; outcome = rw e; value = rested_ending s a w t₀ u e }
  sure_ending (assoc a w t₀) e t z i r q b n = absurd (z (rw e))

  sure_assoc : (st : State) → u ≡ picture s st → u.state ≡ 4 → (i : ℕ) (r : Option ℕ) (q : Option (List ℕ)) (b : Body) (n : ℕ) →
      Goes s (on_dat s (good (msg (sure i r q b)) n) st) (rested u) (with_seen n (give u.terms (sure i r q b) ∷ send (dat (good (ack s i b) 0)) ∷ []))
  unfolding on_dat
  sure_assoc idle e z i r q b n = let x : ◌≡◌ {A = ℕ} 0 4 = rw e at z in absurd (omega arith)
  sure_assoc (single a w t) e z i r q b n = let x : ◌≡◌ {A = ℕ} 1 4 = rw e at z in absurd (omega arith)
  sure_assoc (multi a k t) e z i r q b n = let x : ◌≡◌ {A = ℕ} 2 4 = rw e at z in absurd (omega arith)
  sure_assoc (ending a w t) e z i r q b n = let x : ◌≡◌ {A = ℕ} 3 4 = rw e at z in absurd (omega arith)
  sure_assoc (assoc a w t) e z i r q b n = record { next = assoc a w 0; outcome = rw e; value = rested_assoc s a w t u e }

  note_none : (st : State) → u ≡ picture s st → takes u.state 6 ≡ true → (k : Kind) (r : ℕ) (i : Option ℕ) (q : List ℕ) (b : Body) (n : ℕ) →
      without r (waiting_of st) ≡ None → Goes s (on_dat s (good (note k r i q b) n) st) (rested u) (with_seen n [])
  unfolding on_dat takes waiting_of noted left_waiting
  note_none idle e t k r i q b n o = not_taken (rw e at t)
  note_none (single a w t₀) e t k r i q b n o = not_taken (rw e at t)
  note_none (multi a m t₀) e t k r i q b n o = not_taken (rw e at t)
  note_none (ending a w t₀) e t k r i q b n o = record { next = ending a w t₀; outcome = rw o; value = rested_ending s a w t₀ u e }
  note_none (assoc a w t₀) e t k r i q b n o = record { next = assoc a w 0; outcome = rw o; value = rested_assoc s a w t₀ u e }

  note_some : (st : State) → u ≡ picture s st → takes u.state 6 ≡ true → (k : Kind) (r : ℕ) (i : Option ℕ) (q : List ℕ) (b : Body) (n j : ℕ) →
      without r (waiting_of st) ≡ Some (take j (waiting_of st) ++ drop (suc j) (waiting_of st)) → j < length (waiting_of st) → length (waiting_of st) ≤ 8 →
      Goes s (on_dat s (good (note k r i q b) n) st) (removed (rested u) j) (with_seen n (answer r (result_of k) (note k r i q b) ∷ []))
  unfolding on_dat takes waiting_of noted left_waiting
  note_some idle e t k r i q b n j o h l = not_taken (rw e at t)
  note_some (single a w t₀) e t k r i q b n j o h l = not_taken (rw e at t)
  note_some (multi a m t₀) e t k r i q b n j o h l = not_taken (rw e at t)
  note_some (ending a w t₀) e t k r i q b n j o h l =
      record { next = ending a (take j w ++ drop (suc j) w) t₀; outcome = rw o; value = removed_ending s a w t₀ u j e h l }
  note_some (assoc a w t₀) e t k r i q b n j o h l =
      record { next = assoc a (take j w ++ drop (suc j) w) 0; outcome = rw o; value = removed_assoc s a w t₀ u j e h l }

  bad_is : (st : State) → u ≡ picture s st → takes u.state 6 ≡ true → (n : ℕ) → on_dat s (bad n) st ≡ fall s (maintains st) (waiting_of st) n
  unfolding on_dat takes waiting_of
  bad_is idle e t n = not_taken (rw e at t)
  bad_is (single a w t₀) e t n = not_taken (rw e at t)
  bad_is (multi a m t₀) e t n = not_taken (rw e at t)
  bad_is (ending a w t₀) e t n = refl
  bad_is (assoc a w t₀) e t n = refl

-- 0 for confirmedOk, else 1
pub result_is : (c : ℕ) → 2 ≤ c → result_number (result_of (kind_for c)) ≡ pick (eqb c 2) 0 1
unfolding result_of
result_is zero h = absurd (omega arith)
result_is (suc zero) h = absurd (omega arith)
result_is (suc (suc zero)) h = refl
result_is (suc (suc (suc zero))) h = refl
result_is (suc (suc (suc (suc n)))) h = rw (ne_eqb (suc (suc (suc (suc n)))) 2 (λ z. omega arith))

-- ---- the ways out

module _ {u : Value} (k : Ready u) {f : List ℕ} {h : Header} {n : ℕ} (w : Reads f h n) where
  abbrev S : Setup
  S = setup_of u

  abbrev T : State
  T = state_of u

  abbrev M : Message
  M = message_at f h

  pub heard_plain : {v : Value} {r : Turn} {before mid after : List ℕ} {p q : Pen} → takes u.state 6 ≡ true → h.confirmation ≡ 0
      → Laid before fresh (seen_lines n) mid p → Laid mid p ((0x20 ∷ (terms_octets u.terms ++ bare_to f h.end)) ∷ []) after q → v ≡ rested u
      → r ≡ record { unit = v; verdict = Ok (record { lines = q.lines; octets = q.at }) }
      → Turned u (on_dat (setup_of u) (good (frame_at f h) n) (state_of u)) before r after
  unfolding message_at
  heard_plain t c x y e q =
      turned_as (ap (λ (g : Frame). on_dat S (good g n) T) (plain_view M c))
      (went (plain_goes S u T k.whole t _ _ _ _ n) e
      (ap (λ l. seen_lines n ++ ((0x20 ∷ (terms_octets u.terms ++ l)) ∷ [])) (sym (plain_octets f h w c)) ∙ seen_first n (give u.terms (plain_in M) ∷ [])) (and_then x y) q)

  pub heard_sure_ending : {v : Value} {r : Turn} {before mid after : List ℕ} {p q : Pen} → takes u.state 6 ≡ true → h.confirmation ≡ 1 → (u.state ≡ 4 → ⊥)
      → Laid before fresh (seen_lines n) mid p → Laid mid p ((0x21 ∷ (terms_octets u.terms ++ bare_to f h.end)) ∷ []) after q → v ≡ rested u
      → r ≡ record { unit = v; verdict = Ok (record { lines = q.lines; octets = q.at }) }
      → Turned u (on_dat (setup_of u) (good (frame_at f h) n) (state_of u)) before r after
  unfolding message_at
  heard_sure_ending t c z x y e q =
      turned_as (ap (λ (g : Frame). on_dat S (good g n) T) (sure_view M c))
      (went (sure_ending S u T k.whole t z _ _ _ _ n) e
      (ap (λ l. seen_lines n ++ ((0x21 ∷ (terms_octets u.terms ++ l)) ∷ [])) (sym (sure_octets f h w c)) ∙ seen_first n (give u.terms (sure_in M) ∷ [])) (and_then x y) q)

  pub heard_sure_assoc : {v : Value} {a : Note} {r : Turn} {before b1 b2 after : List ℕ} {p₁ p₂ p₃ : Pen} → h.confirmation ≡ 1 → u.state ≡ 4
      → Laid before fresh (seen_lines n) b1 p₁ → Laid b1 p₁ ((0x21 ∷ (terms_octets u.terms ++ bare_to f h.end)) ∷ []) b2 p₂ → v ≡ rested u → AckOf f h a
      → Laid b2 p₂ ((0x32 ∷ note_octets a (take u.letters u.name)) ∷ []) after p₃
      → r ≡ record { unit = v; verdict = Ok (record { lines = p₃.lines; octets = p₃.at }) }
      → Turned u (on_dat (setup_of u) (good (frame_at f h) n) (state_of u)) before r after
  unfolding message_at
  heard_sure_assoc {a = a} c z x y e g l q =
      turned_as (ap (λ (g : Frame). on_dat S (good g n) T) (sure_view M c))
      (went (sure_assoc S u T k.whole z _ _ _ _ n) e
      (ap (λ l. seen_lines n ++ ((0x21 ∷ (terms_octets u.terms ++ l)) ∷ (0x32 ∷ note_octets a S.name) ∷ [])) (sym (sure_octets f h w c))
      ∙ ap (λ l. seen_lines n ++ ((0x21 ∷ (terms_octets u.terms ++ msg_octets (sure_in M))) ∷ (0x32 ∷ l) ∷ [])) (ack_octets S f h a g)
      ∙ seen_first n (give u.terms (sure_in M) ∷ send (dat (good (ack S (needed M.message_identifier) (body_in M)) 0)) ∷ []))
      (and_then x (and_then y l)) q)

  module _ (t : takes u.state 6 ≡ true) (c : 2 ≤ h.confirmation) (i : Option ℕ) {id : ℕ} {g : Option ℕ} (ei : i ≡ two_octets (held_at f h.reference))
      (er : id ≡ needed i) (eg : g ≡ place_of id 0 (ids_in u)) where
    stands : place_of (needed M.message_reference) 0 (waiting_of T) ≡ g
    unfolding message_at
    stands = sym (eg ∙ rw (er, ei) (ap (place_of (needed (two_octets (held_at f h.reference))) 0) (ids_are S u T k.whole)))

    pub heard_note_none : {v : Value} {r : Turn} {before after : List ℕ} {p : Pen} → Laid before fresh (seen_lines n) after p → v ≡ rested u → g ≡ None
        → r ≡ record { unit = v; verdict = Ok (record { lines = p.lines; octets = p.at }) }
        → Turned u (on_dat (setup_of u) (good (frame_at f h) n) (state_of u)) before r after
    unfolding message_at
    heard_note_none x e z q =
        turned_as (ap (λ (g : Frame). on_dat S (good g n) T) (note_view M c))
        (went (note_none S u T k.whole t _ _ _ _ _ n (without_none _ (waiting_of T) (stands ∙ z))) e (sym (append-nil (seen_lines n)) ∙ seen_first n []) x q)

    pub heard_note_some : {v x : Value} {j : ℕ} {r : Turn} {before mid after : List ℕ} {p₁ p₂ : Pen} → Laid before fresh (seen_lines n) mid p₁ → v ≡ rested u → g ≡ Some j
        → Laid mid p₁ ((34 ∷ pick (eqb h.confirmation 2) 0 1 ∷ bare_to f h.end) ∷ []) after p₂ → x ≡ removed v j
        → r ≡ record { unit = x; verdict = Ok (record { lines = p₂.lines; octets = p₂.at }) }
        → Turned u (on_dat (setup_of u) (good (frame_at f h) n) (state_of u)) before r after
    unfolding message_at
    heard_note_some {j = j} x e z y ex q =
        let ids = ids_are S u T k.whole in
        let below = place_below _ j (waiting_of T) (stands ∙ z) in
        let few = length-take-le u.count u.waiting (omega arith) in
        turned_as (ap (λ (g : Frame). on_dat S (good g n) T) (note_view M c))
        (went (note_some S u T k.whole t _ _ _ _ _ n j (without_some _ j (waiting_of T) (stands ∙ z)) below (omega (arith, ap length ids))) (ex ∙ ap (λ y. removed y j) e)
        (ap (λ l. seen_lines n ++ ((34 ∷ pick (eqb h.confirmation 2) 0 1 ∷ l) ∷ [])) (sym (ap frame_octets (sym (note_view M c)) ∙ view_octets f h w))
        ∙ ap (λ l. seen_lines n ++ ((34 ∷ l ∷ frame_octets (note_in M)) ∷ [])) (sym (result_is h.confirmation c))
        ∙ seen_first n (answer (needed M.message_reference) (result_of (kind_for h.confirmation)) (note_in M) ∷ [])) (and_then x y) q)

-- taking a place out asks that something waits
pub note_remove : {u v : Value} (k : Ready u) (id : ℕ) {j : ℕ} {g : Option ℕ} → g ≡ place_of id 0 (ids_in u) → g ≡ Some j → v ≡ rested u → 1 ≤ v.count
unfolding rested advanced
note_remove {u} {v} k id {j} q z e =
    let b = place_below id j (ids_in u) (sym q ∙ z) in
    let l = length-take-le u.count u.waiting (omega arith) in
    let m : v.count ≡ u.count = ap (λ y. y.count) e in
    omega arith

-- ---- from the octets

module _ {u : Value} (f : List ℕ) {before after : List ℕ} {x : Result Whole Fault} {r : Turn} (q : x ≡ reading_of f) where
  pub heard_bad : Ready u → takes u.state 6 ≡ true → {y : Fault} {n : ℕ} → x ≡ Err y → n ≡ fault_number y
      → Turned u (fall (setup_of u) (maintains (state_of u)) (waiting_of (state_of u)) n) before r after
      → Turned u (on_dat (setup_of u) (reading_in f) (state_of u)) before r after
  heard_bad k t {n = n} e en g =
      turned_as (ap (λ y. on_dat (setup_of u) y (state_of u)) (faulty_reading f q e ∙ ap bad (sym en)) ∙ bad_is (setup_of u) u (state_of u) k.whole t n) g

  pub heard_good : {v : Whole} → x ≡ Ok v → Turned u (on_dat (setup_of u) (good (frame_at f v.header) v.extensions) (state_of u)) before r after
      → Turned u (on_dat (setup_of u) (reading_in f) (state_of u)) before r after
  heard_good {v} e g = turned_as (ap (λ y. on_dat (setup_of u) y (state_of u)) (whole_reading f v q e)) g
