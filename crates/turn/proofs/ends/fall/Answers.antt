-- `turn::ends::fall` meets its contract. Closed by laws of EndLaws and TurnLaws.
use Rattle.turn_laws.proofs.EndLaws.{fell}
use Rattle.turn.proofs.TurnLaws.{as_turn}
use Rattle.turn.proofs.ends.fall.Goals as goal

pub returns : goal.returns
returns g c = fell c.requires.ready c.put_line-pen.ensures.laid c.put_lost-done.ensures c.to_idle.ensures (as_turn c.finished.ensures)
