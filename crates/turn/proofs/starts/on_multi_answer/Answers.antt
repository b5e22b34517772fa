-- `turn::starts::on_multi_answer` meets its contract. Closed by laws of StartLaws.
use Rattle.turn_laws.proofs.StartLaws.{multi_octets, multi_rejected}
use Rattle.turn.proofs.starts.on_multi_answer.Goals as goal

pub returns-then-accepted : goal.returns-then-accepted
returns-then-accepted g c = multi_octets c.requires.ready c.args.frame.now c.requires.in_state c.if-accepted.true c.if-frame-eq0.false c.fall.ensures

pub returns : goal.returns
returns g c = multi_rejected c.requires.ready c.args.frame.now c.requires.in_state c.if-accepted.false c.on_turned_down.ensures
