-- `turn::starts::on_start` meets its contract. Closed by laws of StartLaws and TableLaws.
use Rattle.turn_laws.proofs.StartLaws.{start_idle, start_none, start_bad, start_good}
use Rattle.turn.proofs.TableLaws.{start_no}
use Rattle.turn.proofs.TurnLaws.{refused_in_place}
use mathlib.Core.Path.{refl, sym, ◌∙◌}
use Rattle.turn.proofs.starts.on_start.Goals as goal

pub returns-then-not-takes : goal.returns-then-not-takes
returns-then-not-takes g c = refused_in_place _ (start_no c.requires.ready c.takes.ensures c.if-not-takes.true _ _) refl

pub on_opened-requires-clause-in_state : goal.on_opened-requires-clause-in_state
on_opened-requires-clause-in_state g c = start_idle c.requires.ready (sym c.takes.ensures ∙ c.if-not-takes.false)

pub returns-then-frame-eq0 : goal.returns-then-frame-eq0
returns-then-frame-eq0 g c = start_none c.requires.ready c.args.a c.args.frame.now (sym c.takes.ensures ∙ c.if-not-takes.false) c.if-frame-eq0.true c.on_opened.ensures

pub on_faulty_start-requires-clause-in_state : goal.on_faulty_start-requires-clause-in_state
on_faulty_start-requires-clause-in_state g c = start_idle c.requires.ready (sym c.takes.ensures ∙ c.if-not-takes.false)

pub on_greeted-requires-clause-in_state : goal.on_greeted-requires-clause-in_state
on_greeted-requires-clause-in_state g c = start_idle c.requires.ready (sym c.takes.ensures ∙ c.if-not-takes.false)

pub returns-in-Err : goal.returns-in-Err
returns-in-Err g c = start_bad c.requires.ready c.args.a c.args.frame.now (sym c.takes.ensures ∙ c.if-not-takes.false) c.if-frame-eq0.false (sym c.in-Err.ensures) refl c.from.ensures c.on_faulty_start.ensures

pub returns-in-Ok : goal.returns-in-Ok
returns-in-Ok g c = start_good c.requires.ready c.args.a c.args.frame.now (sym c.takes.ensures ∙ c.if-not-takes.false) c.if-frame-eq0.false (sym c.in-Ok.ensures.1) refl (rw c.in-Ok.ensures.0 at c.on_greeted.ensures)
