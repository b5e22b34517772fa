-- `state::sound::distinct` meets its contract. The invariant: what is left of the list answers as the whole (Scan).
use Rattle.std.proofs.Common.{◌≡◌, take}
use Rattle.std.specs.List.{slice_range}
use Rattle.book.specs.Sound.{differ}
use Rattle.state.proofs.sound.distinct.Given as goal

abbrev pub invariant-loop-i : goal.invariant-loop-i
invariant-loop-i g l = let w = (g.S.Seen.unit l.u).waiting in differ (slice_range w l.i l.n) ≡ differ (take l.n w)
