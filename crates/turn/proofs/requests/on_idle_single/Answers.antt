-- `turn::requests::on_idle_single` meets its contract. Closed by laws of RequestLaws and TurnLaws.
use Rattle.turn_laws.proofs.RequestLaws.{asked_single, idle_room}
use Rattle.turn.proofs.TurnLaws.{as_turn}
use Rattle.turn.proofs.requests.on_idle_single.Goals as goal

pub returns : goal.returns
returns g c = asked_single c.requires.ready c.args.r.now.reads c.args.r.now.terms c.requires.in_state c.args.r.now.asks c.settle-t.ensures c.put_message-done.ensures.laid c.enter.ensures c.join.ensures (as_turn c.finished.ensures)

pub join-requires : goal.join-requires
join-requires g c = idle_room c.requires.ready c.requires.in_state 1 c.settle-t.result c.enter.ensures
