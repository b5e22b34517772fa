-- `turn::requests::on_next_plain` meets its contract. Closed by laws of RequestLaws and TurnLaws.
use Rattle.turn_laws.proofs.RequestLaws.{asked_next_plain}
use Rattle.turn.proofs.TurnLaws.{as_turn}
use Rattle.turn.proofs.requests.on_next_plain.Goals as goal

pub returns : goal.returns
returns g c = asked_next_plain c.requires.ready c.args.r.now.reads c.args.r.now.terms c.requires.in_state c.requires.same c.requires.confirmation c.put_message-done.ensures.laid c.at_elapsed.ensures (as_turn c.finished.ensures)
