-- `text::put_digits` meets its contract. The invariant: the digits that are left give, put now, what all of them give at the start (PrintLaws).
use Prim.Native.Nat.{◌+◌, ◌*◌}
use mathlib.Core.Path.{◌≡◌, refl, sym, ◌∙◌}
use native.Mathlib.Omega.{arith}
use borrow.Author.Rules.{rules}
use Rattle.text.proofs.PrintLaws.{digits_step, digits_end}
use Rattle.text.proofs.put_digits.Goals as goal

pub loop-i-preserved : goal.loop-i-preserved
loop-i-preserved c =
    let l = c.loop-i in
    let a = c.args in
    let n : a.at + 2 * (l.i + 1) ≡ a.at + 2 * l.i + 2 = omega arith in
    rw n (digits_step l.out (a.at + 2 * l.i) l.i a.line.now _ _ (search rules) c.digit_of.ensures c.digit_of-in-loop-i.ensures) ∙ l.invariant

pub returns : goal.returns
returns c = (refl, let l = c.loop-i in sym (digits_end l.out (c.args.at + 2 * l.i) l.i c.args.line.now (search rules)) ∙ l.invariant)
