-- `turn::starts::on_turned_down` meets its contract. Closed by laws of StartLaws and TurnLaws.
use Rattle.turn_laws.proofs.StartLaws.{turned_down}
use Rattle.turn.proofs.TurnLaws.{as_turn, ids_as}
use Rattle.turn.proofs.starts.on_turned_down.Goals as goal

pub returns : goal.returns
returns g c = turned_down c.requires.ready c.requires.in_state (ids_as (g.H.Seen.unit c.args.u.now) _ _ c.count-n.ensures c.put_answers-pen.ensures.laid) c.put_line-done.ensures.laid c.to_idle.ensures (as_turn c.finished.ensures)
