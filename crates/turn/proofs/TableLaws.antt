-- The turn table and the rule book: an event that the table doesn't take is refused with WrongState by the rule book. Closed by cases on the event and the state.
use Rattle.std.specs.Prelude.{Option}
use Prim.Native.Nat.{ℕ}
use mathlib.Core.Path.{◌≡◌, refl, sym, ◌∙◌}
use mathlib.Core.Bool.{Bool, false}
use Rattle.book.specs.declared.Unit.{Unit as Value}
use Rattle.book.specs.declared.Terms.{Terms}
use Rattle.book.specs.declared.Refusal.{Refusal}
use Rattle.book.specs.declared.Refusal.TheVariants.{WrongState}
use Rattle.book.specs.Book.{State, idle, single, multi, ending, assoc, Setup, Msg, Reading, refused, on_single, on_multi, on_end, on_start, on_reply, on_dat, on_fin, on_fin_ok, on_abort}
use Rattle.book.specs.Turns.{takes}
use Rattle.book.specs.Picture.{picture, setup_of, state_of}
use Rattle.book.specs.Ready.{Ready}
use Rattle.turn_laws.proofs.Moved.{not_taken}

-- by the state that the unit is a picture of
module _ (s : Setup) (u : Value) where
  end_in : (st : State) → u ≡ picture s st → takes u.state 2 ≡ false → on_end st ≡ refused WrongState
  unfolding takes on_end
  end_in idle p t = refl
  end_in (single a w t₀) p t = refl
  end_in (multi a k t₀) p t = refl
  end_in (ending a w t₀) p t = refl
  end_in (assoc a w t₀) p t = not_taken (sym (rw p at t))

  start_in : (st : State) → u ≡ picture s st → takes u.state 4 ≡ false → (a : Terms) (o : Option Reading) → on_start s a o st ≡ refused WrongState
  unfolding takes on_start
  start_in idle p t b o = not_taken (sym (rw p at t))
  start_in (single a w t₀) p t b o = refl
  start_in (multi a k t₀) p t b o = refl
  start_in (ending a w t₀) p t b o = refl
  start_in (assoc a w t₀) p t b o = refl

  reply_in : (st : State) → u ≡ picture s st → takes u.state 5 ≡ false → (b : Bool) (o : Option Reading) → on_reply s b o st ≡ refused WrongState
  unfolding takes on_reply
  reply_in idle p t b o = refl
  reply_in (single a w t₀) p t b o = not_taken (sym (rw p at t))
  reply_in (multi a k t₀) p t b o = not_taken (sym (rw p at t))
  reply_in (ending a w t₀) p t b o = refl
  reply_in (assoc a w t₀) p t b o = refl

  data_in : (st : State) → u ≡ picture s st → takes u.state 6 ≡ false → (r : Reading) → on_dat s r st ≡ refused WrongState
  unfolding takes on_dat
  data_in idle p t r = refl
  data_in (single a w t₀) p t r = refl
  data_in (multi a k t₀) p t r = refl
  data_in (ending a w t₀) p t r = not_taken (sym (rw p at t))
  data_in (assoc a w t₀) p t r = not_taken (sym (rw p at t))

  fin_in : (st : State) → u ≡ picture s st → takes u.state 7 ≡ false → on_fin s st ≡ refused WrongState
  unfolding takes on_fin
  fin_in idle p t = refl
  fin_in (single a w t₀) p t = refl
  fin_in (multi a k t₀) p t = refl
  fin_in (ending a w t₀) p t = refl
  fin_in (assoc a w t₀) p t = not_taken (sym (rw p at t))

  fin_ok_in : (st : State) → u ≡ picture s st → takes u.state 8 ≡ false → (b : Bool) → on_fin_ok s b st ≡ refused WrongState
  unfolding takes on_fin_ok
  fin_ok_in idle p t b = refl
  fin_ok_in (single a w t₀) p t b = refl
  fin_ok_in (multi a k t₀) p t b = refl
  fin_ok_in (ending a w t₀) p t b = not_taken (sym (rw p at t))
  fin_ok_in (assoc a w t₀) p t b = refl

  abort_in : (st : State) → u ≡ picture s st → takes u.state 9 ≡ false → (r : ℕ) → on_abort s r st ≡ refused WrongState
  unfolding takes on_abort
  abort_in idle p t r = refl
  abort_in (single a w t₀) p t r = not_taken (sym (rw p at t))
  abort_in (multi a k t₀) p t r = not_taken (sym (rw p at t))
  abort_in (ending a w t₀) p t r = not_taken (sym (rw p at t))
  abort_in (assoc a w t₀) p t r = not_taken (sym (rw p at t))

  single_in : (st : State) → u ≡ picture s st → takes u.state 0 ≡ false → (a : Terms) (m : Msg) → on_single a m st ≡ refused WrongState
  unfolding takes on_single
  single_in idle p t a m = not_taken (sym (rw p at t))
  single_in (single b w t₀) p t a m = refl
  single_in (multi b k t₀) p t a m = refl
  single_in (ending b w t₀) p t a m = refl
  single_in (assoc b w t₀) p t a m = refl

  multi_in : (st : State) → u ≡ picture s st → takes u.state 1 ≡ false → (o : Option Refusal) (a : Terms) (m : Msg) → on_multi o a m st ≡ refused WrongState
  unfolding takes on_multi
  multi_in idle p t o a m = not_taken (sym (rw p at t))
  multi_in (single b w t₀) p t o a m = refl
  multi_in (multi b k t₀) p t o a m = refl
  multi_in (ending b w t₀) p t o a m = refl
  multi_in (assoc b w t₀) p t o a m = not_taken (sym (rw p at t))

-- by what the table answered
module _ {u : Value} (k : Ready u) {b : Bool} where
  pub end_no : b ≡ takes u.state 2 → b ≡ false → on_end (state_of u) ≡ refused WrongState
  end_no q z = end_in (setup_of u) u (state_of u) k.whole (sym q ∙ z)

  pub start_no : b ≡ takes u.state 4 → b ≡ false → (a : Terms) (o : Option Reading) → on_start (setup_of u) a o (state_of u) ≡ refused WrongState
  start_no q z = start_in (setup_of u) u (state_of u) k.whole (sym q ∙ z)

  pub reply_no : b ≡ takes u.state 5 → b ≡ false → (x : Bool) (o : Option Reading) → on_reply (setup_of u) x o (state_of u) ≡ refused WrongState
  reply_no q z = reply_in (setup_of u) u (state_of u) k.whole (sym q ∙ z)

  pub data_no : b ≡ takes u.state 6 → b ≡ false → (r : Reading) → on_dat (setup_of u) r (state_of u) ≡ refused WrongState
  data_no q z = data_in (setup_of u) u (state_of u) k.whole (sym q ∙ z)

  pub fin_no : b ≡ takes u.state 7 → b ≡ false → on_fin (setup_of u) (state_of u) ≡ refused WrongState
  fin_no q z = fin_in (setup_of u) u (state_of u) k.whole (sym q ∙ z)

  pub fin_ok_no : b ≡ takes u.state 8 → b ≡ false → (x : Bool) → on_fin_ok (setup_of u) x (state_of u) ≡ refused WrongState
  fin_ok_no q z = fin_ok_in (setup_of u) u (state_of u) k.whole (sym q ∙ z)

  pub abort_no : b ≡ takes u.state 9 → b ≡ false → (r : ℕ) → on_abort (setup_of u) r (state_of u) ≡ refused WrongState
  abort_no q z = abort_in (setup_of u) u (state_of u) k.whole (sym q ∙ z)

  pub single_no : b ≡ takes u.state 0 → b ≡ false → (a : Terms) (m : Msg) → on_single a m (state_of u) ≡ refused WrongState
  single_no q z = single_in (setup_of u) u (state_of u) k.whole (sym q ∙ z)

  pub multi_no : b ≡ takes u.state 1 → b ≡ false → (o : Option Refusal) (a : Terms) (m : Msg) → on_multi o a m (state_of u) ≡ refused WrongState
  multi_no q z = multi_in (setup_of u) u (state_of u) k.whole (sym q ∙ z)
