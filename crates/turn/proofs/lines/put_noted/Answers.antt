-- `turn::lines::put_noted` meets its contract. Closed by laws of PenLaws.
use Rattle.said.proofs.PenLaws.{line_note, note_length}
use mathlib.Core.Path.{ap}
use Prim.Native.Nat.{◌+◌}
use lib.ListN.{length}
use borrow.Author.Rules.{rules}
use native.Mathlib.Omega.{arith}
use Rattle.turn.proofs.lines.put_noted.Goals as goal

pub returns-clause-laid : goal.returns-clause-laid
returns-clause-laid g c = line_note c.args.head c.args.note c.args.name.now _ c.args.pen (search rules) (search rules) (ap (λ k. k + length c.args.name.now) c.before_name.ensures.0) c.put_head-next.ensures c.put_note-used.ensures

pub returns-clause-place : goal.returns-clause-place
returns-clause-place g c = omega (arith, c.requires.small, c.put_head-next.ensures.place, c.put_note-used.ensures.place, c.before_name.ensures.0, c.before_name.ensures.1, note_length c.args.note c.args.name.now (search rules) (search rules))
