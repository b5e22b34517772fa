-- `turn::ends::on_tick` meets its contract. Closed by laws of EndLaws and TurnLaws.
use Rattle.turn.proofs.TurnLaws.{tick_moved, as_turn}
use Rattle.turn_laws.proofs.EndLaws.{ticked_idle, ticked_early, ticked_end, ticked_fall}
use mathlib.Core.Path.{sym, ◌∙◌}
use native.Mathlib.Omega.{arith}
use Rattle.turn.proofs.ends.on_tick.Goals as goal

pub returns-then-s-eq0 : goal.returns-then-s-eq0
returns-then-s-eq0 g c = ticked_idle c.requires.ready (sym c.state-s.ensures ∙ c.if-s-eq0.true) (as_turn c.finished.ensures)

pub returns-then-e-limit : goal.returns-then-e-limit
returns-then-e-limit g c = ticked_early c.requires.ready (λ z. c.if-s-eq0.false (c.state-s.ensures ∙ z)) c.limit-limit.ensures (omega (arith, c.if-e-limit.true, c.elapsed-e.ensures)) (tick_moved _ _ _ c.state-s.ensures c.elapsed-e.ensures c.at_elapsed.ensures) (as_turn c.finished-then-e-limit.ensures)

pub returns-then-s-eq4 : goal.returns-then-s-eq4
returns-then-s-eq4 g c = ticked_end c.requires.ready (λ z. c.if-s-eq0.false (c.state-s.ensures ∙ z)) c.limit-limit.ensures (omega (arith, c.if-e-limit.false, c.elapsed-e.ensures)) (sym c.state-s.ensures ∙ c.if-s-eq4.true) c.put_line-done.ensures.laid c.at_elapsed-then-s-eq4.ensures (as_turn c.finished-then-s-eq4.ensures)

pub returns : goal.returns
returns g c = ticked_fall c.requires.ready (λ z. c.if-s-eq0.false (c.state-s.ensures ∙ z)) c.limit-limit.ensures (omega (arith, c.if-e-limit.false, c.elapsed-e.ensures)) (λ z. c.if-s-eq4.false (c.state-s.ensures ∙ z)) c.fall.ensures
