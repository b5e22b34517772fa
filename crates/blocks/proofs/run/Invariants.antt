-- The invariant: all that was read was told, but for what is held at the block's front.
use Rattle.std.proofs.Common.{◌≤◌, [], take, length}
use Rattle.blocks.specs.Passing.{Passed}
use Rattle.blocks.proofs.run.Given as goal

abbrev pub invariant-loop : goal.invariant-loop
invariant-loop g l =
    (l.held ≤ length l.block)
    × Passed g.T.Teller.takes l.initial.teller [] (g.I.Read.remaining l.initial.input) l.teller (g.I.Read.remaining l.input) (take l.held l.block)
