-- `state::waiting::without` meets its contract. The invariant: closing up at i gives what the whole gives (WaitingLaws).
use lib.ListN.{length}
use mathlib.Core.Path.{◌≡◌}
use Rattle.book.specs.Waiting.{closed}
use Rattle.state.proofs.waiting.without.Given as goal

abbrev pub invariant-loop-i : goal.invariant-loop-i
invariant-loop-i l = (length l.v ≡ 8) × (closed l.v l.i ≡ closed l.initial.v l.at)
