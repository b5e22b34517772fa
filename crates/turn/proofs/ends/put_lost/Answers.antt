-- `turn::ends::put_lost` meets its contract. Closed by laws of EndLaws.
use Rattle.turn_laws.proofs.EndLaws.{lost_put}
use Rattle.turn.proofs.ends.put_lost.Goals as goal

pub returns : goal.returns
returns g c = lost_put c.requires.ready c.put_uncertain-next.ensures.laid c.put_line.ensures.laid
