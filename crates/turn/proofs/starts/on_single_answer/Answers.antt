-- `turn::starts::on_single_answer` meets its contract. Closed by laws of StartLaws and TurnLaws.
use Rattle.turn_laws.proofs.StartLaws.{nobody_waits, answer_faulty, answer_whole}
use Rattle.turn.proofs.TurnLaws.{as_turn}
use mathlib.Core.Path.{refl, sym, ◌∙◌}
use Rattle.turn.proofs.starts.on_single_answer.Goals as goal

pub returns-then-count-eq0 : goal.returns-then-count-eq0
returns-then-count-eq0 g c = nobody_waits c.requires.ready c.args.frame.now c.requires.in_state (sym c.count.ensures ∙ c.if-count-eq0.true) c.to_idle.ensures (as_turn c.finished.ensures)

pub returns-in-Err : goal.returns-in-Err
returns-in-Err g c = answer_faulty c.requires.ready c.args.frame.now c.if-frame-eq0.false (sym c.in-Err.ensures) c.requires.in_state refl c.on_unanswered-in-Err.ensures

pub returns-in-Ok : goal.returns-in-Ok
returns-in-Ok g c = answer_whole c.requires.ready c.args.frame.now c.if-frame-eq0.false (sym c.in-Ok.ensures.1) refl (rw c.in-Ok.ensures.0 at c.on_answered.ensures)
