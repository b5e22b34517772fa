-- THE TURN TABLE AND THE RULE BOOK AGREE: an event that the table doesn't take is refused with WrongState by the rule book. Closed by cases on the event
-- and the state.
use Prim.Native.Nat.{ℕ}
use mathlib.Core.Path.{◌≡◌, refl, ap, sym, ◌∙◌}
use mathlib.Core.Bool.{Bool, false}
use mathlib.Core.List.{List}
use Rattle.book.specs.declared.Unit.{Unit as Value}
use Rattle.book.specs.declared.Event.{Event}
use Rattle.book.specs.declared.Event.TheVariants.{Malformed, Transfer, End, Tick, StartAsked, StartAnswered, Data, EndAsked, EndAnswered, Aborted, Dropped}
use Rattle.book.specs.declared.Refusal.TheVariants.{WrongState}
use Rattle.book.specs.Book.{State, idle, single, multi, ending, assoc, Setup, refused, on_end, on_start, on_reply, on_dat, on_fin, on_fin_ok, on_abort}
use Rattle.book.specs.Turns.{takes}
use Rattle.book.specs.Picture.{picture, setup_of, state_of}
use Rattle.book.specs.Step.{does}
use Rattle.book.specs.Ready.{Ready}
use Rattle.unit.specs.Columns.{column_of}
use Rattle.turn_laws.proofs.Moved.{not_taken}

module _ (s : Setup) (u : Value) (f : List ℕ) where
  always : {A : Type 0} (st : State) → u ≡ picture s st → takes u.state 3 ≡ false → A
  unfolding takes
  always idle p t = not_taken (sym (rw p at t))
  always (single a w t₀) p t = not_taken (sym (rw p at t))
  always (multi a k t₀) p t = not_taken (sym (rw p at t))
  always (ending a w t₀) p t = not_taken (sym (rw p at t))
  always (assoc a w t₀) p t = not_taken (sym (rw p at t))

  pub refused_1 : (e : Event) (st : State) → u ≡ picture s st → takes u.state (column_of e) ≡ false → does s e f st ≡ refused WrongState
  unfolding does takes on_end on_start on_reply on_dat on_fin on_fin_ok on_abort
  refused_1 Malformed st p t = always st p t
  refused_1 (Transfer c a) st p t = always st p t
  refused_1 Tick st p t = always st p t
  refused_1 End idle p t = refl
  refused_1 End (single a w t₀) p t = refl
  refused_1 End (multi a k t₀) p t = refl
  refused_1 End (ending a w t₀) p t = refl
  refused_1 End (assoc a w t₀) p t = not_taken (sym (rw p at t))
  refused_1 (StartAsked b) idle p t = not_taken (sym (rw p at t))
  refused_1 (StartAsked b) (single a w t₀) p t = refl
  refused_1 (StartAsked b) (multi a k t₀) p t = refl
  refused_1 (StartAsked b) (ending a w t₀) p t = refl
  refused_1 (StartAsked b) (assoc a w t₀) p t = refl
  refused_1 (StartAnswered b) idle p t = refl
  refused_1 (StartAnswered b) (single a w t₀) p t = not_taken (sym (rw p at t))
  refused_1 (StartAnswered b) (multi a k t₀) p t = not_taken (sym (rw p at t))
  refused_1 (StartAnswered b) (ending a w t₀) p t = refl
  refused_1 (StartAnswered b) (assoc a w t₀) p t = refl
  refused_1 Data idle p t = refl
  refused_1 Data (single a w t₀) p t = refl
  refused_1 Data (multi a k t₀) p t = refl
  refused_1 Data (ending a w t₀) p t = not_taken (sym (rw p at t))
  refused_1 Data (assoc a w t₀) p t = not_taken (sym (rw p at t))
  refused_1 EndAsked idle p t = refl
  refused_1 EndAsked (single a w t₀) p t = refl
  refused_1 EndAsked (multi a k t₀) p t = refl
  refused_1 EndAsked (ending a w t₀) p t = refl
  refused_1 EndAsked (assoc a w t₀) p t = not_taken (sym (rw p at t))
  refused_1 (EndAnswered b) idle p t = refl
  refused_1 (EndAnswered b) (single a w t₀) p t = refl
  refused_1 (EndAnswered b) (multi a k t₀) p t = refl
  refused_1 (EndAnswered b) (ending a w t₀) p t = not_taken (sym (rw p at t))
  refused_1 (EndAnswered b) (assoc a w t₀) p t = refl
  refused_1 Aborted idle p t = refl
  refused_1 Aborted (single a w t₀) p t = not_taken (sym (rw p at t))
  refused_1 Aborted (multi a k t₀) p t = not_taken (sym (rw p at t))
  refused_1 Aborted (ending a w t₀) p t = not_taken (sym (rw p at t))
  refused_1 Aborted (assoc a w t₀) p t = not_taken (sym (rw p at t))
  refused_1 Dropped idle p t = refl
  refused_1 Dropped (single a w t₀) p t = not_taken (sym (rw p at t))
  refused_1 Dropped (multi a k t₀) p t = not_taken (sym (rw p at t))
  refused_1 Dropped (ending a w t₀) p t = not_taken (sym (rw p at t))
  refused_1 Dropped (assoc a w t₀) p t = not_taken (sym (rw p at t))

-- the same of a unit that is ready, by what the table answered
pub acts_no : {u : Value} (k : Ready u) (e : Event) (f : List ℕ) {c : ℕ} {b : Bool} → c ≡ column_of e → b ≡ takes u.state c → b ≡ false
    → does (setup_of u) e f (state_of u) ≡ refused WrongState
acts_no {u} k e f q g h = refused_1 (setup_of u) u f e (state_of u) k.whole (ap (takes u.state) (sym q) ∙ sym g ∙ h)
