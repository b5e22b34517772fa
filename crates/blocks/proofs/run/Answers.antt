-- `blocks::run` meets its contract. Closed by Laws: one turn after the other.
use Rattle.std.proofs.Common.{[], arith, refl}
use Rattle.std.proofs.KnownBytes.{Consumes-nil}
use Rattle.blocks.specs.Passing.{none}
use Rattle.blocks.proofs.Laws.{passed_then}
use Rattle.blocks.proofs.run.Goals as goal

pub loop-init : goal.loop-init
loop-init g c = (omega arith, record { told = []; read = []; chain = none; consumed = Consumes-nil (g.I.Read.remaining c.args.input.now); whole = refl })

pub returns-in_default : goal.returns-in_default
returns-in_default g c = let e = c.in_default.ensures in (e.0, passed_then c.loop.invariant.1 e.1)

pub loop-preserved : goal.loop-preserved
loop-preserved g c = let e = c.in-Some.ensures in (e.2.0, rw e.2.1 at (passed_then c.loop.invariant.1 e.1))
