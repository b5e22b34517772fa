-- `blocks::tell_all` meets its contract. Closed by Laws, one law for each way on.
use Rattle.blocks.proofs.Laws.{going_start, going_step, going_end}
use Rattle.blocks.proofs.tell_all.Goals as goal
use Rattle.blocks.proofs.tell_all.Goals.{else-loop-teller-test, then-loop-teller-test+then-taken-eq0}

pub loop-teller-init : goal.loop-teller-init
loop-teller-init g c = going_start c.args.block.now

pub loop-teller-preserved : goal.loop-teller-preserved
loop-teller-preserved g c = going_step _ c.loop-teller.invariant c.tell-taken.ensures.took

pub returns-clause-took : goal.returns-clause-took
returns-clause-took g c =
    elim c.loop-teller-test.branch [
      | else-loop-teller-test w ↦ rw (w.rest-is, w.teller-is) (going_end c.loop-teller.invariant)
      | then-loop-teller-test+then-taken-eq0 w ↦ rw (w.rest-is, w.teller-is) (going_end (going_step _ c.loop-teller.invariant w.tell-taken.ensures.took))
    ]
