-- `turn::data::on_plain` meets its contract. Closed by laws of DataLaws and TurnLaws.
use Rattle.turn_laws.proofs.DataLaws.{heard_plain}
use Rattle.turn.proofs.TurnLaws.{as_turn, terms_as}
use Rattle.turn.proofs.data.on_plain.Goals as goal

pub returns : goal.returns
returns g c = heard_plain c.requires.ready c.args.m.now.reads c.requires.taken c.requires.confirmation c.put_seen-pen.ensures.laid (terms_as (g.H.Seen.unit c.args.u.now) _ _ c.terms-t.ensures c.put_message-done.ensures.laid) c.rest.ensures (as_turn c.finished.ensures)
