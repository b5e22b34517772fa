-- `turn::lines::put_octets` meets its contract. Closed by `part_set` of PlaceLaws.
use Rattle.turn.proofs.PlaceLaws.{part_set}
use borrow.Author.Rules.{rules}
use Rattle.turn.proofs.lines.put_octets.Goals as goal

pub returns : goal.returns
returns g c = record { held = part_set c.args.out.now c.args.at _ c.copy_from_slice.ensures.after (search rules) (search rules); place = search rules }
