-- Setup: within its limits a unit in Idle, else one with every number 0. Closed by the equations of `set_up`.
use Rattle.std.specs.Prelude.{Ok}
use Prim.Native.Nat.{ℕ, ◌≤◌}
use mathlib.Core.Path.{◌≡◌, ap, sym, ◌∙◌}
use mathlib.Core.Bool.{Bool, true, false}
use mathlib.Core.List.{List}
use borrow.Author.Tests.{leb-true}
use lib.Dec.{ltb}
use lib.ListN.{length}
use Rattle.octets.specs.Choice.{both}
use Rattle.book.specs.declared.Unit.{Unit as Value}
use Rattle.book.specs.declared.Turn.{Turn}
use Rattle.book.specs.declared.Refusal.TheVariants.{BadSetup}
use Rattle.book.specs.Book.{refused}
use Rattle.book.specs.Picture.{padded}
use Rattle.book.specs.Sound.{within_limits}
use Rattle.book.specs.Step.{turn_of, set_up, blank}
use Rattle.turn_laws.specs.Moves.{made}
use Rattle.turn_laws.proofs.Moved.{not_taken, made_is}

both_right : (a b : Bool) → both a b ≡ true → b ≡ true
both_right true b e = e
both_right false b e = not_taken e

pub within_name : (start end inactivity letters : ℕ) → within_limits start end inactivity letters ≡ true → letters ≤ 32
unfolding within_limits
within_name start end inactivity letters e =
    leb-true letters 32 (both_right (ltb 0 letters) _ (both_right (ltb 0 inactivity) _ (both_right (ltb 0 end) _ (both_right (ltb 0 start) _ e))))

module _ (start end inactivity : ℕ) (name : List ℕ) {b : Bool} (q : b ≡ within_limits start end inactivity (length name)) where
  pub set_up_lem : b ≡ true → {letters : List ℕ} {u : Value} {r : Turn} → letters ≡ padded 32 name → u ≡ made start end inactivity letters (length name) →
      r ≡ record { unit = u; verdict = Ok (record { lines = 0; octets = 0 }) } → r ≡ set_up start end inactivity name
  unfolding set_up
  set_up_lem z el eu er = er ∙ rw (sym q ∙ z) (ap (λ v. record { unit = v; verdict = Ok (record { lines = 0; octets = 0 }) }) (eu ∙ ap (λ l. made start end inactivity l (length name)) el ∙ made_is start end inactivity name))

  pub not_set : b ≡ false → {u : Value} {r : Turn} → u ≡ blank → r ≡ turn_of u (refused BadSetup) → r ≡ set_up start end inactivity name
  unfolding set_up turn_of
  not_set z eu er = er ∙ rw (sym q ∙ z, eu)
