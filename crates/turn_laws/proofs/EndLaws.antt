-- 03, 04, 13, 14, 15, 16 and the falls: one law for each way out. Closed by cases on the state.
use Rattle.std.specs.Prelude.{Ok}
use Prim.Native.Nat.{ℕ, suc, ◌+◌, ◌<◌, ◌≤◌}
use mathlib.Core.Path.{◌≡◌, refl, ap, sym, ◌∙◌}
use mathlib.Core.Bool.{Bool, true, false}
use mathlib.Core.List.{List, [], ◌∷◌, ◌++◌, append-nil}
use native.Mathlib.Omega.{arith}
use native.Mathlib.Numerals.{add-one}
use borrow.Author.Tests.{lt-leb, le-leb}
use Rattle.book.specs.declared.Unit.{Unit as Value}
use Rattle.book.specs.declared.Turn.{Turn}
use Rattle.book.specs.Book.{send, gone, ended, fin, fin_ok, State, idle, single, multi, ending, assoc, Setup, done, waiting_of, unsure, fall, quiet_fall, late, on_end, on_tick, on_fin, on_fin_ok, on_abort}
use Rattle.book.specs.Turns.{takes}
use Rattle.book.specs.Picture.{picture, setup_of, state_of}
use Rattle.book.specs.Sound.{limit_of}
use Rattle.book.specs.Step.{Turned}
use Rattle.book.specs.Ready.{Ready}
use Rattle.said.specs.declared.Pen.{Pen}
use Rattle.said.specs.Pens.{Laid}
use Rattle.turn_laws.specs.Moves.{advanced, cleared}
use Rattle.said.specs.Saying.{said, fresh, maintains, doubts}
use Rattle.said.proofs.PenLaws.{laid_none, and_then}
use Rattle.turn_laws.proofs.Moved.{not_taken, ended_is, back_is}
use Rattle.turn_laws.proofs.Gave.{Goes, went, gave, turned_as, doubted, cleared_idle}

module _ (s : Setup) (u : Value) where
  end_goes : (st : State) → u ≡ picture s st → takes u.state 2 ≡ true → Goes s (on_end st) (advanced u 3 0) (send fin ∷ [])
  unfolding on_end takes
  end_goes idle e t = not_taken (rw e at t)
  end_goes (single a w t₀) e t = not_taken (rw e at t)
  end_goes (multi a k t₀) e t = not_taken (rw e at t)
  end_goes (ending a w t₀) e t = not_taken (rw e at t)
  end_goes (assoc a w t₀) e t = record { next = ending a w 0; outcome = refl; value = ended_is s a w t₀ u e }

  abort_is : (st : State) (reason : ℕ) → u ≡ picture s st → takes u.state 9 ≡ true → on_abort s reason st ≡ quiet_fall s (maintains st) (waiting_of st) reason
  unfolding on_abort waiting_of takes
  abort_is idle reason e t = not_taken (rw e at t)
  abort_is (single a w t₀) reason e t = refl
  abort_is (multi a k t₀) reason e t = refl
  abort_is (ending a w t₀) reason e t = refl
  abort_is (assoc a w t₀) reason e t = refl

  fin_is : (st : State) → u ≡ picture s st → takes u.state 7 ≡ true → on_fin s st ≡ done idle (send (fin_ok true) ∷ unsure s (maintains st) (waiting_of st) (ended ∷ []))
  unfolding on_fin waiting_of takes
  fin_is idle e t = not_taken (rw e at t)
  fin_is (single a w t₀) e t = not_taken (rw e at t)
  fin_is (multi a k t₀) e t = not_taken (rw e at t)
  fin_is (ending a w t₀) e t = not_taken (rw e at t)
  fin_is (assoc a w t₀) e t = refl

  yes_is : (st : State) → u ≡ picture s st → takes u.state 8 ≡ true → on_fin_ok s true st ≡ done idle (unsure s (maintains st) (waiting_of st) [])
  unfolding on_fin_ok waiting_of takes
  yes_is idle e t = not_taken (rw e at t)
  yes_is (single a w t₀) e t = not_taken (rw e at t)
  yes_is (multi a k t₀) e t = not_taken (rw e at t)
  yes_is (assoc a w t₀) e t = not_taken (rw e at t)
  yes_is (ending a w t₀) e t = refl

  no_goes : (st : State) → u ≡ picture s st → takes u.state 8 ≡ true → Goes s (on_fin_ok s false st) (advanced u 4 0) []
  unfolding on_fin_ok takes
  no_goes idle e t = not_taken (rw e at t)
  no_goes (single a w t₀) e t = not_taken (rw e at t)
  no_goes (multi a k t₀) e t = not_taken (rw e at t)
  no_goes (assoc a w t₀) e t = not_taken (rw e at t)
  no_goes (ending a w t₀) e t = record { next = assoc a w 0; outcome = refl; value = back_is s a w t₀ u e }

  -- ---- ticks
  tick_idle : (st : State) → u ≡ picture s st → u.state ≡ 0 → Goes s (on_tick s (late s st) st) u []
  unfolding on_tick
  tick_idle idle e n = record { next = idle; outcome = refl; value = e }
  tick_idle (single a w t) e n = let z : ◌≡◌ {A = ℕ} 1 0 = rw e at n in absurd (omega arith)
  tick_idle (multi a k t) e n = let z : ◌≡◌ {A = ℕ} 2 0 = rw e at n in absurd (omega arith)
  tick_idle (ending a w t) e n = let z : ◌≡◌ {A = ℕ} 3 0 = rw e at n in absurd (omega arith)
  tick_idle (assoc a w t) e n = let z : ◌≡◌ {A = ℕ} 4 0 = rw e at n in absurd (omega arith)

  tick_early : (st : State) → u ≡ picture s st → (u.state ≡ 0 → ⊥) → u.elapsed + 1 < limit_of u →
      Goes s (on_tick s (late s st) st) (advanced u u.state (u.elapsed + 1)) []
  unfolding on_tick late limit_of advanced
  tick_early idle e n h = absurd (n (rw e))
  tick_early (single a w t) e n h = record { next = single a w (suc t); outcome = rw (lt-leb s.start_limit (suc t) (rw (e, add-one) at h)); value = rw (e, add-one) }
  tick_early (multi a k t) e n h = record { next = multi a k (suc t); outcome = rw (lt-leb s.start_limit (suc t) (rw (e, add-one) at h)); value = rw (e, add-one) }
  tick_early (ending a w t) e n h = record { next = ending a w (suc t); outcome = rw (lt-leb s.end_limit (suc t) (rw (e, add-one) at h)); value = rw (e, add-one) }
  tick_early (assoc a w t) e n h = record { next = assoc a w (suc t); outcome = rw (lt-leb s.inactivity_limit (suc t) (rw (e, add-one) at h)); value = rw (e, add-one) }

  tick_end : (st : State) → u ≡ picture s st → u.state ≡ 4 → limit_of u ≤ u.elapsed + 1 → Goes s (on_tick s (late s st) st) (advanced u 3 0) (send fin ∷ [])
  unfolding on_tick late limit_of
  tick_end idle e n h = let z : ◌≡◌ {A = ℕ} 0 4 = rw e at n in absurd (omega arith)
  tick_end (single a w t) e n h = let z : ◌≡◌ {A = ℕ} 1 4 = rw e at n in absurd (omega arith)
  tick_end (multi a k t) e n h = let z : ◌≡◌ {A = ℕ} 2 4 = rw e at n in absurd (omega arith)
  tick_end (ending a w t) e n h = let z : ◌≡◌ {A = ℕ} 3 4 = rw e at n in absurd (omega arith)
  tick_end (assoc a w t) e n h =
      record { next = ending a w 0; outcome = rw (le-leb s.inactivity_limit (suc t) (rw (e, add-one) at h)); value = ended_is s a w t u e }

  tick_fall : (st : State) → u ≡ picture s st → (u.state ≡ 0 → ⊥) → (u.state ≡ 4 → ⊥) → limit_of u ≤ u.elapsed + 1 →
      on_tick s (late s st) st ≡ fall s (maintains st) (waiting_of st) 2
  unfolding on_tick late limit_of waiting_of
  tick_fall idle e n m h = absurd (n (rw e))
  tick_fall (single a w t) e n m h = rw (le-leb s.start_limit (suc t) (rw (e, add-one) at h))
  tick_fall (multi a k t) e n m h = rw (le-leb s.start_limit (suc t) (rw (e, add-one) at h))
  tick_fall (ending a w t) e n m h = rw (le-leb s.end_limit (suc t) (rw (e, add-one) at h))
  tick_fall (assoc a w t) e n m h = absurd (m (rw e))

module _ {u : Value} (k : Ready u) where
  abbrev S : Setup
  S = setup_of u

  abbrev T : State
  T = state_of u

  -- ---- falls
  pub lost_put : {reason : ℕ} {b b1 a : List ℕ} {p q r : Pen} → Laid b p (doubts u) b1 q → Laid b1 q ((0x24 ∷ reason ∷ []) ∷ []) a r →
      Laid b p (doubts u ++ said (gone reason ∷ [])) a r
  lost_put l m = and_then l m

  pub fell : {reason : ℕ} {v : Value} {r : Turn} {before mid after : List ℕ} {p q : Pen}
      → Laid before fresh ((0x35 ∷ reason ∷ []) ∷ []) mid p → Laid mid p (doubts u ++ said (gone reason ∷ [])) after q → v ≡ cleared u
      → r ≡ record { unit = v; verdict = Ok (record { lines = q.lines; octets = q.at }) }
      → Turned u (fall (setup_of u) (maintains (state_of u)) (waiting_of (state_of u)) reason) before r after
  unfolding fall
  fell {reason = reason} l m e q = gave refl (cleared_idle k e) (ap (λ x. (0x35 ∷ reason ∷ []) ∷ x) (doubted k (gone reason ∷ []))) (and_then l m) q

  pub aborted : (reason : ℕ) {v : Value} {r : Turn} {before after : List ℕ} {q : Pen}
      → takes u.state 9 ≡ true → Laid before fresh (doubts u ++ said (gone reason ∷ [])) after q → v ≡ cleared u
      → r ≡ record { unit = v; verdict = Ok (record { lines = q.lines; octets = q.at }) }
      → Turned u (on_abort (setup_of u) reason (state_of u)) before r after
  unfolding quiet_fall
  aborted reason t l e q = gave (abort_is S u T reason k.whole t) (cleared_idle k e) (doubted k (gone reason ∷ [])) l q

  -- ---- 03
  pub asked_end : {v : Value} {r : Turn} {before after : List ℕ} {q : Pen}
      → takes u.state 2 ≡ true → Laid before fresh ((0x33 ∷ []) ∷ []) after q → v ≡ advanced u 3 0
      → r ≡ record { unit = v; verdict = Ok (record { lines = q.lines; octets = q.at }) } → Turned u (on_end (state_of u)) before r after
  asked_end t l e q = went (end_goes S u T k.whole t) e refl l q

  -- ---- 04
  pub ticked_idle : {r : Turn} {before : List ℕ} → u.state ≡ 0 → r ≡ record { unit = u; verdict = Ok (record { lines = 0; octets = 0 }) }
      → Turned u (on_tick (setup_of u) (late (setup_of u) (state_of u)) (state_of u)) before r before
  ticked_idle n q = went (tick_idle S u T k.whole n) refl refl (laid_none _ fresh) q

  module _ {limit : ℕ} (n : u.state ≡ 0 → ⊥) (l : limit ≡ limit_of u) where
    pub ticked_early : {v : Value} {r : Turn} {before : List ℕ} → u.elapsed + 1 < limit → v ≡ advanced u u.state (u.elapsed + 1)
        → r ≡ record { unit = v; verdict = Ok (record { lines = 0; octets = 0 }) } → Turned u (on_tick (setup_of u) (late (setup_of u) (state_of u)) (state_of u)) before r before
    ticked_early h e q = went (tick_early S u T k.whole n (rw l at h)) e refl (laid_none _ fresh) q

    pub ticked_end : {v : Value} {r : Turn} {before after : List ℕ} {p : Pen} → limit ≤ u.elapsed + 1 → u.state ≡ 4
        → Laid before fresh ((0x33 ∷ []) ∷ []) after p → v ≡ advanced u 3 0
        → r ≡ record { unit = v; verdict = Ok (record { lines = p.lines; octets = p.at }) } → Turned u (on_tick (setup_of u) (late (setup_of u) (state_of u)) (state_of u)) before r after
    ticked_end h m x e q = went (tick_end S u T k.whole m (rw l at h)) e refl x q

    pub ticked_fall : {r : Turn} {before after : List ℕ} → limit ≤ u.elapsed + 1 → (u.state ≡ 4 → ⊥)
        → Turned u (fall (setup_of u) (maintains (state_of u)) (waiting_of (state_of u)) 2) before r after
        → Turned u (on_tick (setup_of u) (late (setup_of u) (state_of u)) (state_of u)) before r after
    ticked_fall h m t = turned_as (tick_fall S u T k.whole n m (rw l at h)) t

  -- ---- 13
  pub was_ended : {v : Value} {r : Turn} {before b1 b2 after : List ℕ} {p₁ p₂ p₃ : Pen}
      → takes u.state 7 ≡ true → Laid before fresh ((0x34 ∷ 0 ∷ []) ∷ []) b1 p₁ → Laid b1 p₁ (doubts u) b2 p₂ → Laid b2 p₂ ((0x23 ∷ []) ∷ []) after p₃
      → v ≡ cleared u → r ≡ record { unit = v; verdict = Ok (record { lines = p₃.lines; octets = p₃.at }) } → Turned u (on_fin (setup_of u) (state_of u)) before r after
  was_ended t x y z e q =
      gave (fin_is S u T k.whole t) (cleared_idle k e) (ap (λ l. (0x34 ∷ 0 ∷ []) ∷ l) (doubted k (ended ∷ []))) (and_then x (and_then y z)) q

  -- ---- 14
  pub agreed : {b : Bool} {v : Value} {r : Turn} {before after : List ℕ} {p : Pen}
      → takes u.state 8 ≡ true → b ≡ true → Laid before fresh (doubts u) after p → v ≡ cleared u
      → r ≡ record { unit = v; verdict = Ok (record { lines = p.lines; octets = p.at }) } → Turned u (on_fin_ok (setup_of u) b (state_of u)) before r after
  agreed t z x e q =
      turned_as (ap (λ (b : Bool). on_fin_ok S b T) z)
      (gave (yes_is S u T k.whole t) (cleared_idle k e) (sym (append-nil (doubts u)) ∙ doubted k []) x q)

  pub declined : {b : Bool} {v : Value} {r : Turn} {before : List ℕ}
      → takes u.state 8 ≡ true → b ≡ false → v ≡ advanced u 4 0
      → r ≡ record { unit = v; verdict = Ok (record { lines = 0; octets = 0 }) } → Turned u (on_fin_ok (setup_of u) b (state_of u)) before r before
  declined t z e q = turned_as (ap (λ (b : Bool). on_fin_ok S b T) z) (went (no_goes S u T k.whole t) e refl (laid_none _ fresh) q)
