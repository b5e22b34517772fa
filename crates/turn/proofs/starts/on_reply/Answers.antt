-- `turn::starts::on_reply` meets its contract. Closed by laws of StartLaws and TableLaws.
use Rattle.turn_laws.proofs.StartLaws.{reply_single, single_accepted}
use Rattle.turn.proofs.TableLaws.{reply_no}
use Rattle.turn.proofs.TurnLaws.{refused_in_place}
use mathlib.Core.Path.{refl, sym, ◌∙◌}
use Rattle.turn.proofs.starts.on_reply.Goals as goal

pub returns-then-not-takes : goal.returns-then-not-takes
returns-then-not-takes g c = refused_in_place _ (reply_no c.requires.ready c.takes.ensures c.if-not-takes.true _ _) refl

pub returns-then-accepted : goal.returns-then-accepted
returns-then-accepted g c = single_accepted c.requires.ready c.args.frame.now (sym c.takes.ensures ∙ c.if-not-takes.false) (λ z. c.if-state-eq2.false (c.state.ensures ∙ z)) c.if-accepted.true c.fall.ensures

pub on_single_answer-requires-clause-in_state : goal.on_single_answer-requires-clause-in_state
on_single_answer-requires-clause-in_state g c = reply_single c.requires.ready (sym c.takes.ensures ∙ c.if-not-takes.false) (λ z. c.if-state-eq2.false (c.state.ensures ∙ z))
