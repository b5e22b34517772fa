-- Laws of a line by its kind: what is said of what was read, and of a setup. Closed by `rw` with it.
use Prim.Native.Nat.{ℕ, ◌-◌, ◌<◌}
use mathlib.Core.Path.{◌≡◌, refl, ap, sym, ◌∙◌}
use mathlib.Core.Bool.{Bool, true, false}
use mathlib.Core.List.{List, ◌++◌}
use native.Mathlib.Omega.{arith}
use lib.Dec.{ltb}
use lib.ListN.{length, take, drop, length-drop, drop_of_length-le}
use lib.Seq.{take_all}
use Rattle.octets.specs.Choice.{pick, both}
use Rattle.book.specs.Sound.{within_limits}
use Rattle.phrases.specs.Spelling.{spelled, beginning}
use Rattle.book.specs.Events.{event_of}
use Rattle.book.specs.declared.Event.{Event}
use Rattle.words.specs.declared.outputs.Output.{Output}
use Rattle.words.specs.Lines.{two, none_words, is_setup, limits_words, setup_words, event_words, input_words, output_of, output_words, line_words}

pub event_said : (s : List ℕ) {r e : Event} → r ≡ event_of s → r ≡ e → event_words s e ≡ input_words s
unfolding input_words
event_said s p q = ap (event_words s) (sym q ∙ p)

pub output_said : (s : List ℕ) {r o : Output} → r ≡ output_of s → r ≡ o → output_words s o ≡ line_words s
unfolding line_words
output_said s p q = ap (output_words s) (sym q ∙ p)

-- ---- a setup

module _ (s : List ℕ) where
  pub setup_short : length s < 7 → none_words 7 ≡ setup_words s
  unfolding setup_words is_setup within_limits
  setup_short h = rw (drop_of_length-le s {i = 7} (omega arith)) (never _ (ltb 0 (two s 1)) (ltb 0 (two s 3)) (ltb 0 (two s 5)))
    where
      never : (x : List ℕ) (a b c : Bool) → none_words 7 ≡ pick (both a (both b (both c false))) x (none_words 7)
      never x true true true = refl
      never x true true false = refl
      never x true false c = refl
      never x false b c = refl

  module _ {name : List ℕ} (n : name ≡ take (length s - 7) (drop 7 s)) {start end inactivity : ℕ} (p : start ≡ two s 1) (q : end ≡ two s 3) (r : inactivity ≡ two s 5)
      {w : Bool} (e : w ≡ within_limits start end inactivity (length name)) where
    named : name ≡ drop 7 s
    named = n ∙ take_all (length s - 7) (drop 7 s) (omega (arith, length-drop 7 s))

    pub setup_yes : w ≡ true → limits_words start end inactivity ++ spelled " ticks; name " ++ beginning name ≡ setup_words s
    unfolding setup_words is_setup
    setup_yes h = let k : within_limits start end inactivity (length name) ≡ true = sym e ∙ h in rw (← p, ← q, ← r, ← named, k)

    pub setup_no : w ≡ false → none_words 7 ≡ setup_words s
    unfolding setup_words is_setup
    setup_no h = let k : within_limits start end inactivity (length name) ≡ false = sym e ∙ h in rw (← p, ← q, ← r, ← named, k)
