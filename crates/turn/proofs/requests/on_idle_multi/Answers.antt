-- `turn::requests::on_idle_multi` meets its contract. Closed by laws of RequestLaws and TurnLaws.
use Rattle.turn_laws.proofs.RequestLaws.{asked_multi, frame_short, kept_room}
use Rattle.turn.proofs.TurnLaws.{as_turn, blank_kept}
use Rattle.turn.proofs.requests.on_idle_multi.Goals as goal

pub returns : goal.returns
returns g c = asked_multi c.requires.ready c.args.r.now.reads c.args.r.now.terms c.requires.in_state c.args.r.now.asks c.settle-t.ensures c.put_line-done.ensures.laid c.enter.ensures c.keep.ensures c.join.ensures (as_turn c.finished.ensures)

pub keep-requires-clause-blank : goal.keep-requires-clause-blank
keep-requires-clause-blank g c = blank_kept _ _ _ c.enter.ensures

pub keep-requires-clause-short : goal.keep-requires-clause-short
keep-requires-clause-short g c = frame_short c.args.r.now.message.frame.now c.args.r.now.message.header c.args.r.now.reads c.args.r.now.asks

pub join-requires : goal.join-requires
join-requires g c = kept_room c.requires.ready c.requires.in_state 2 c.settle-t.result c.enter.ensures c.args.r.now.message.frame.now c.keep.ensures
