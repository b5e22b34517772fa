-- A turn over a lent unit from a turn by value, and what was read of the unit in a law that speaks of it.
use Rattle.std.specs.Prelude.{Option, Some, Result, Err}
use Prim.Native.Nat.{ℕ, ◌+◌, ◌<◌, ◌≤◌}
use mathlib.Core.Path.{◌≡◌, ap, sym, ◌∙◌}
use mathlib.Core.Bool.{not}
use mathlib.Core.List.{List, [], ◌∷◌, ◌++◌, map}
use native.Mathlib.Omega.{arith}
use Rattle.book.specs.declared.Unit.{Unit as Value}
use Rattle.book.specs.declared.Turn.{Turn}
use Rattle.book.specs.declared.Done.{Done}
use Rattle.book.specs.declared.Refusal.{Refusal}
use Rattle.book.specs.Book.{Outcome, refused}
use Rattle.book.specs.Picture.{setup_of, state_of, ids_in}
use Rattle.book.specs.Lines.{terms_octets}
use Rattle.book.specs.Waiting.{place_of}
use Rattle.book.specs.declared.Terms.{Terms}
use Rattle.turn_laws.proofs.DataLaws.{place_below}
use Rattle.said.specs.declared.Note.{Note}
use Rattle.said.specs.declared.Say.{Say}
use Rattle.book.specs.Ready.{Ready}
use Rattle.book.specs.Step.{does, turn_of, octets_of, Turned}
use Rattle.book.specs.Events.{event_of, frame_from}
use Rattle.book.specs.declared.Event.{Event}
use Rattle.turn_laws.proofs.Gave.{doubts_put, turned_as}
use Rattle.said.specs.Pens.{Laid}
use Rattle.said.specs.Notes.{note_octets, answer_line}
use Rattle.said.specs.Saying.{doubts}
use Rattle.turn_laws.specs.Moves.{advanced, entered}
use Rattle.said.specs.declared.Pen.{Pen}
use lib.ListN.{length, take, drop, replicate}
use lib.Seq.{length-take-le}
use lib.Dec.{eqb}

pub as_turn : {v : Value} {r x : Result Done Refusal} → r ≡ x → ◌≡◌ {A = Turn} (record { unit = v; verdict = r }) (record { unit = v; verdict = x })
as_turn {v} e = ap (λ y. record { unit = v; verdict = y }) e

pub as_refused : (u : Value) {n : Refusal} {r : Result Done Refusal} → r ≡ Err n → ◌≡◌ {A = Turn} (record { unit = u; verdict = r }) (turn_of u (refused n))
unfolding turn_of
as_refused u e = as_turn e

-- a refusal: unit and buffer as they were
pub refused_in_place : (u : Value) {o : Outcome} {n : Refusal} {before : List ℕ} {r : Result Done Refusal} → o ≡ refused n → r ≡ Err n
    → Turned u o before (record { unit = u; verdict = r }) before
unfolding turn_of octets_of
refused_in_place u e q = record { result = rw e (as_turn q); buffer = rw e }

pub doubts_in : {u : Value} (k : Ready u) {s n : ℕ} {b a : List ℕ} {p q : Pen} → s ≡ u.state → n ≡ u.count →
    Laid b p (map (answer_line (record { result = 2; multi_shot = not (eqb s 1); confirmation = 4 }) (take u.letters u.name)) (take n u.waiting)) a q → Laid b p (doubts u) a q
doubts_in k e f l = doubts_put k (rw (e, f) at l)

pub tick_moved : (u : Value) {v : Value} (s t : ℕ) → s ≡ u.state → t ≡ u.elapsed → v ≡ advanced u s (t + 1) → v ≡ advanced u u.state (u.elapsed + 1)
tick_moved u s t e f p = p ∙ rw (e, f)

pub terms_as : (u : Value) (k : ℕ) (b : List ℕ) {t : Terms} {m a : List ℕ} {p q : Pen} → t ≡ u.terms → Laid m p ((k ∷ (terms_octets t ++ b)) ∷ []) a q
    → Laid m p ((k ∷ (terms_octets u.terms ++ b)) ∷ []) a q
terms_as u k b e l = rw e at l

pub name_as : (u : Value) (h : List ℕ) (n : Note) {name : List ℕ} {m a : List ℕ} {p q : Pen} → name ≡ take u.letters u.name → Laid m p ((h ++ note_octets n name) ∷ []) a q
    → Laid m p ((h ++ note_octets n (take u.letters u.name)) ∷ []) a q
name_as u h n e l = rw e at l

pub ids_as : (u : Value) (s : Say) (name : List ℕ) {n : ℕ} {m a : List ℕ} {p q : Pen} → n ≡ u.count → Laid m p (map (answer_line s name) (take n u.waiting)) a q
    → Laid m p (map (answer_line s name) (ids_in u)) a q
ids_as u s name e l = rw e at l

pub place_counted : {u : Value} (k : Ready u) (id : ℕ) {j : ℕ} {g : Option ℕ} → g ≡ place_of id 0 (ids_in u) → g ≡ Some j → j < u.count
place_counted {u} k id {j} q z =
    let b = place_below id j (ids_in u) (sym q ∙ z) in
    let l = length-take-le u.count u.waiting (omega (arith, k.few, k.eight)) in
    omega arith

pub entered_as : (u : Value) {v : Value} {t : Terms} → t ≡ u.terms → v ≡ entered u 4 t → v ≡ entered u 4 u.terms
entered_as u e q = q ∙ ap (entered u 4) e

pub blank_kept : (u : Value) {v : Value} (n : ℕ) (t : Terms) → v ≡ entered u n t → v.kept ≡ replicate 554 0
unfolding entered
blank_kept u n t e = ap (λ (y : Value). y.kept) e

pub name_short : {u : Value} (k : Ready u) {name : List ℕ} → name ≡ take u.letters u.name → length name ≤ 32
name_short {u} k e = let l = length-take-le u.letters u.name (omega (arith, k.named, k.wide)) in omega (arith, ap length e, k.named)

-- what an event does, by the event that was read
pub acted_as : (u : Value) (ev : List ℕ) {e : Event} {r : Turn} {before after : List ℕ} → e ≡ event_of ev →
    Turned u (does (setup_of u) e (drop (frame_from e) ev) (state_of u)) before r after →
    Turned u (does (setup_of u) (event_of ev) (drop (frame_from (event_of ev)) ev) (state_of u)) before r after
acted_as u ev q t = turned_as (ap (λ x. does (setup_of u) x (drop (frame_from x) ev) (state_of u)) (sym q)) t
