-- A refusal changes nothing: the unit that was handed in comes back, and every octet of the buffer is as it was. Closed by what `Turned` says.
use Rattle.std.specs.Prelude.{Err}
use Prim.Native.Nat.{ℕ}
use mathlib.Core.List.{List}
use mathlib.Core.Path.{◌≡◌, ap, ◌∙◌}
use native.Mathlib.Omega.{arith}
use Rattle.book.specs.Book.{Outcome, refused, done}
use Rattle.book.specs.Step.{Turned, turn_of, octets_of}
use Rattle.book.specs.declared.Unit.{Unit as Value}
use Rattle.book.specs.declared.Turn.{Turn}
use Rattle.book.specs.declared.Refusal.{Refusal}

refused_by : (u : Value) (o : Outcome) (n : Refusal) (r : Turn) → r ≡ turn_of u o → r.verdict ≡ Err n → o ≡ refused n
unfolding turn_of
refused_by u (refused m) n r q e = ap refused (cc)
refused_by u (done st os) n r q e = let z : ◌≡◌ {A = ℕ} 0 1 = cc in absurd (omega arith)

pub refusal_changes_nothing : (u : Value) (o : Outcome) (n : Refusal) (before after : List ℕ) (r : Turn) → Turned u o before r after → r.verdict ≡ Err n →
    (r.unit ≡ u) × (after ≡ before)
unfolding turn_of octets_of
refusal_changes_nothing u o n before after r t e =
    let q = refused_by u o n r t.result e in
    (ap (λ (x : Turn). x.unit) (t.result ∙ ap (turn_of u) q), t.buffer ∙ ap (λ (x : Outcome). lib.Seq.sets before 0 (octets_of x)) q)
