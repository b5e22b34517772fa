-- `turn::starts::on_unanswered` meets its contract. Closed by laws of StartLaws and TurnLaws.
use Rattle.turn_laws.proofs.StartLaws.{unanswered}
use Rattle.turn.proofs.TurnLaws.{as_turn}
use Rattle.turn.proofs.starts.on_unanswered.Goals as goal

pub returns : goal.returns
returns g c = unanswered c.requires.ready c.requires.in_state c.requires.waits c.put_answers-done.ensures.laid c.to_idle.ensures (as_turn c.finished.ensures)
