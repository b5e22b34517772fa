-- The measure: what is left of the block. The invariant: what was told is the block's front (Laws: `Going`).
use Rattle.std.proofs.Common.{length}
use Rattle.blocks.proofs.Laws.{Going}
use Rattle.blocks.proofs.tell_all.Given as goal

abbrev pub invariant-loop-teller : goal.invariant-loop-teller
invariant-loop-teller g l = Going g.T.Teller.takes l.initial.teller l.block l.rest l.teller

abbrev pub decreases-loop-teller : goal.decreases-loop-teller
decreases-loop-teller g l = length l.rest
