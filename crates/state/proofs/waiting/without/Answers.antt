-- `state::waiting::without` meets its contract. The invariant: closing up at i gives what the whole gives (WaitingLaws).
use lib.ListN.{length-set}
use Rattle.state.proofs.WaitingLaws.{closed_past, closed_step, closed_end}
use native.Mathlib.Omega.{arith}
use Rattle.state.proofs.waiting.without.Goals as goal

pub loop-i-preserved : goal.loop-i-preserved
loop-i-preserved c = let l = c.loop-i in (simp length-set l.invariant.0, closed_step l.v l.i l.invariant.0 c.loop-i-test.true l.invariant.1)

pub returns-after-loop-i : goal.returns-after-loop-i
returns-after-loop-i c = let l = c.loop-i in closed_end l.v l.i l.invariant.0 (l.auto.i-end (omega (arith, c.if-at-lt8.true))) c.loop-i-test.false l.invariant.1

pub returns-else-at-lt8 : goal.returns-else-at-lt8
returns-else-at-lt8 c = closed_past c.args.w c.args.at c.if-at-lt8.false
