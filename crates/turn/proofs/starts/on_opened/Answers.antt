-- `turn::starts::on_opened` meets its contract. Closed by laws of StartLaws and TurnLaws.
use Rattle.turn_laws.proofs.StartLaws.{opened}
use Rattle.turn.proofs.TurnLaws.{as_turn}
use Rattle.turn.proofs.starts.on_opened.Goals as goal

pub returns : goal.returns
returns g c = opened c.requires.ready c.args.a c.requires.in_state c.put_line-done.ensures.laid c.enter.ensures (as_turn c.finished.ensures)
