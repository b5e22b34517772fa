-- A turn from its outcome: what the code laid and returned is what the rule book wants. Closed by the equations of the outcome.
use Rattle.std.specs.Prelude.{Ok}
use Prim.Native.Nat.{ℕ, ◌+◌}
use mathlib.Core.Path.{◌≡◌, refl, ap, sym, ◌∙◌}
use mathlib.Core.Bool.{Bool, true, not}
use mathlib.Core.List.{List, [], ◌∷◌, ◌++◌, map}
use native.Mathlib.Nat.{zero-add}
use lib.ListN.{length, take}
use lib.Dec.{eqb}
use Rattle.book.specs.declared.Unit.{Unit as Value}
use Rattle.book.specs.declared.Turn.{Turn}
use Rattle.book.specs.declared.Refusal.{Refusal}
use Rattle.book.specs.Book.{Out, answer, State, idle, single, multi, ending, assoc, Setup, Outcome, refused, done, unsure, with_seen, local, unknown, not_ok, uncertain, failed, refuse_all, waiting_of}
use Rattle.book.specs.Lines.{line_of, laid, laid_out}
use Rattle.book.specs.Picture.{picture, setup_of, state_of, ids_in}
use Rattle.book.specs.Step.{turn_of, octets_of, Turned}
use Rattle.book.specs.Ready.{Ready}
use Rattle.said.specs.declared.Pen.{Pen}
use Rattle.said.specs.declared.Say.{Say}
use Rattle.said.specs.Pens.{Laid}
use Rattle.said.specs.Notes.{note_octets, answer_line}
use Rattle.turn_laws.specs.Moves.{cleared}
use Rattle.said.specs.Saying.{said, fresh, maintains, doubts, seen_lines}
use Rattle.said.proofs.PenLaws.{laid_as}
use Rattle.turn_laws.proofs.Moved.{number_is, number_of, ids_are, cleared_is}

said-length : (os : List Out) → length (said os) ≡ length os
said-length [] = refl
said-length (o ∷ os) = ap Prim.Native.Nat.suc (said-length os)

pub gave : {u v : Value} {o : Outcome} {st : State} {os : List Out} {ls : List (List ℕ)} {before after : List ℕ} {pen : Pen} {r : Turn}
    → o ≡ done st os → v ≡ picture (setup_of u) st → ls ≡ said os → Laid before fresh ls after pen
    → r ≡ record { unit = v; verdict = Ok (record { lines = pen.lines; octets = pen.at }) } → Turned u o before r after
unfolding turn_of octets_of laid_out
gave {os = os} e f g l q =
    let m = laid_as g l in
    let n = m.count ∙ zero-add (length (said os)) ∙ said-length os in
    let p = m.put.place ∙ zero-add (length (laid (said os))) in
    record { result = q ∙ rw (e, f, n, p); buffer = rw e m.put.held }

-- an outcome that takes the unit to v and gives the lines os
pub record Goes (s : Setup) (o : Outcome) (v : Value) (os : List Out) : Type 0 where
  pub next : State
  pub outcome : o ≡ done next os
  pub value : v ≡ picture s next

pub went : {u v w : Value} {o : Outcome} {os : List Out} {ls : List (List ℕ)} {before after : List ℕ} {pen : Pen} {r : Turn}
    → Goes (setup_of u) o w os → v ≡ w → ls ≡ said os → Laid before fresh ls after pen
    → r ≡ record { unit = v; verdict = Ok (record { lines = pen.lines; octets = pen.at }) } → Turned u o before r after
went g e f l q = gave g.outcome (e ∙ g.value) f l q

pub refuses : {u : Value} {o : Outcome} {n : Refusal} {before : List ℕ} {r : Turn} → o ≡ refused n → r ≡ turn_of u (refused n) → Turned u o before r before
unfolding octets_of
refuses e f = record { result = rw e f; buffer = rw e }

pub turned_as : {u : Value} {o p : Outcome} {before after : List ℕ} {r : Turn} → o ≡ p → Turned u p before r after → Turned u o before r after
turned_as e t = record { result = rw e t.result; buffer = rw e t.buffer }

-- ---- lines in front of lines

pub unsure_first : (s : Setup) (m : Bool) (w : List ℕ) (rest : List Out) → said (unsure s m w rest) ≡ said (unsure s m w []) ++ said rest
unfolding unsure
unsure_first s m [] rest = refl
unsure_first s m (i ∷ w) rest = ap (λ l. line_of (answer i uncertain (local s m unknown i)) ∷ l) (unsure_first s m w rest)

pub seen_first : (n : ℕ) (os : List Out) → seen_lines n ++ said os ≡ said (with_seen n os)
unfolding seen_lines with_seen
seen_first Prim.Native.Nat.zero os = refl
seen_first (Prim.Native.Nat.suc n) os = refl

-- ---- answers made locally, as the code lays them

abbrev pub say_uncertain : Bool → Say
say_uncertain m = record { result = 2; multi_shot = m; confirmation = 4 }

abbrev pub say_failed : Say
say_failed = record { result = 1; multi_shot = true; confirmation = 3 }

local_line : (s : Setup) (m : Bool) (i : ℕ) → line_of (answer i uncertain (local s m unknown i)) ≡ answer_line (say_uncertain m) s.name i
unfolding local note_octets
local_line s m i = refl

failed_line : (s : Setup) (i : ℕ) → line_of (answer i failed (local s true not_ok i)) ≡ answer_line say_failed s.name i
unfolding local note_octets
failed_line s i = refl

pub unsure_lines : (s : Setup) (m : Bool) (w : List ℕ) → map (answer_line (say_uncertain m) s.name) w ≡ said (unsure s m w [])
unfolding unsure
unsure_lines s m [] = refl
unsure_lines s m (i ∷ w) = rw (local_line s m i, unsure_lines s m w)

pub failed_lines : (s : Setup) (w : List ℕ) (rest : List Out) → map (answer_line say_failed s.name) w ++ said rest ≡ said (refuse_all s w rest)
unfolding refuse_all
failed_lines s [] rest = refl
failed_lines s (i ∷ w) rest = rw (failed_line s i, failed_lines s w rest)

-- ---- by the unit that was handed in

maintains_is : (st : State) → not (eqb (number_of st) 1) ≡ maintains st
maintains_is idle = refl
maintains_is (single a w t) = refl
maintains_is (multi a k t) = refl
maintains_is (ending a w t) = refl
maintains_is (assoc a w t) = refl

module _ {u : Value} (r : Ready u) where
  shot_is : not (eqb u.state 1) ≡ maintains (state_of u)
  shot_is = ap (λ (k : ℕ). not (eqb k 1)) (number_is (setup_of u) u (state_of u) r.whole) ∙ maintains_is (state_of u)

  pub doubts_put : {b a : List ℕ} {p q : Pen} →
      Laid b p (map (answer_line (say_uncertain (not (eqb u.state 1))) (take u.letters u.name)) (ids_in u)) a q → Laid b p (doubts u) a q
  unfolding doubts
  doubts_put l =
      laid_as (ap (λ (m : Bool). map (answer_line (say_uncertain m) (setup_of u).name) (ids_in u)) shot_is
      ∙ ap (map (answer_line (say_uncertain (maintains (state_of u))) (setup_of u).name)) (ids_are (setup_of u) u (state_of u) r.whole)
      ∙ unsure_lines (setup_of u) (maintains (state_of u)) (waiting_of (state_of u))) l

  pub doubted : (rest : List Out) → doubts u ++ said rest ≡ said (unsure (setup_of u) (maintains (state_of u)) (waiting_of (state_of u)) rest)
  unfolding doubts
  doubted rest = sym (unsure_first (setup_of u) (maintains (state_of u)) (waiting_of (state_of u)) rest)

  pub cleared_idle : {v : Value} → v ≡ cleared u → v ≡ picture (setup_of u) idle
  cleared_idle e = e ∙ cleared_is (setup_of u) u (state_of u) r.whole
