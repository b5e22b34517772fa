-- `turn::starts::on_faulty_start` meets its contract. Closed by laws of StartLaws and TurnLaws.
use Rattle.turn_laws.proofs.StartLaws.{fault_made}
use Rattle.turn.proofs.TurnLaws.{as_turn}
use Rattle.turn.proofs.starts.on_faulty_start.Goals as goal

pub returns : goal.returns
returns g c = fault_made c.requires.ready c.requires.in_state c.put_line-done.ensures.laid (as_turn c.finished.ensures)
