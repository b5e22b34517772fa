-- `turn::data::on_sure` meets its contract. Closed by laws of DataLaws and TurnLaws.
use Rattle.turn_laws.proofs.DataLaws.{heard_sure_assoc, heard_sure_ending}
use Rattle.turn.proofs.TurnLaws.{as_turn, terms_as, name_as}
use mathlib.Core.Path.{sym, ◌∙◌}
use mathlib.Core.List.{[], ◌∷◌}
use Rattle.turn.proofs.data.on_sure.Goals as goal

pub returns-then-s-eq4 : goal.returns-then-s-eq4
returns-then-s-eq4 g c = heard_sure_assoc c.requires.ready c.args.m.now.reads c.requires.confirmation (sym c.state-s.ensures ∙ c.if-s-eq4.true) c.put_seen-pen.ensures.laid (terms_as (g.H.Seen.unit c.args.u.now) _ _ c.terms-t.ensures c.put_message-given.ensures.laid) c.rest.ensures c.ack_of-note.ensures (name_as (g.H.Seen.unit c.args.u.now) (50 ∷ []) _ c.name.ensures c.put_noted-done.ensures.laid) (as_turn c.finished.ensures)

pub returns : goal.returns
returns g c = heard_sure_ending c.requires.ready c.args.m.now.reads c.requires.taken c.requires.confirmation (λ z. c.if-s-eq4.false (c.state-s.ensures ∙ z)) c.put_seen-pen.ensures.laid (terms_as (g.H.Seen.unit c.args.u.now) _ _ c.terms-t.ensures c.put_message-given.ensures.laid) c.rest-2.ensures (as_turn c.finished-2.ensures)
