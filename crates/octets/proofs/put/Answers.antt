-- `octets::put` meets its contract. The invariant: the octets still to be put give, put now, what the whole gives at the start (Puts: `sets-step`, `sets_end`).
use mathlib.Core.Path.{◌∙◌, sym}
use native.Mathlib.Nat.{add-zero}
use native.Mathlib.Omega.{arith}
use Rattle.octets.proofs.Puts.{sets_out, sets-step, sets_end}
use Rattle.octets.proofs.put.Goals as goal

pub loop-i-init : goal.loop-i-init
loop-i-init c = rw add-zero

pub loop-i-preserved : goal.loop-i-preserved
loop-i-preserved c =
    let l = c.loop-i in
    let a = c.args in
    let e = c.min-n.ensures in
    sets-step l.out a.at l.i a.src.now (omega (arith, c.loop-i-test.true, e)) ∙ l.invariant

pub returns-after-loop-i : goal.returns-after-loop-i
returns-after-loop-i c =
    let l = c.loop-i in
    let a = c.args in
    let h = c.if-at-out.true in
    let e = l.auto.out in
    sym (sets_end l.out a.src.now a.at c.min-n.result l.i (omega arith) (rw e c.min-n.ensures) c.loop-i-test.false l.auto.i-end) ∙ l.invariant

pub returns-else-at-out : goal.returns-else-at-out
returns-else-at-out c = sym (sets_out c.args.src.now c.args.out.now c.args.at c.if-at-out.false)
