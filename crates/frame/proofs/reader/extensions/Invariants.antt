-- `frame::reader::extensions` meets its contract. The invariant: what is left to read gives what the whole gives (ReaderLaws: `extensions_more`, `extensions_done`, `extensions_bad`).
use Prim.Native.Nat.{◌≤◌, ◌-◌}
use mathlib.Core.Path.{◌≡◌}
use lib.ListN.{length}
use Rattle.frame.specs.Reading.{extensions_from}
use Rattle.frame.proofs.reader.extensions.Given as goal

abbrev pub invariant-loop-at : goal.invariant-loop-at
invariant-loop-at l =
    (l.n ≤ l.at) × (extensions_from (length l.frame - l.n) l.frame l.at l.n ≡ extensions_from (length l.frame) l.frame l.start 0)

abbrev pub decreases-loop-at : goal.decreases-loop-at
decreases-loop-at l = length l.frame - l.at
