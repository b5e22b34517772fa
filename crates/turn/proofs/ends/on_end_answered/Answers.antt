-- `turn::ends::on_end_answered` meets its contract. Closed by laws of EndLaws and TableLaws.
use Rattle.turn_laws.proofs.EndLaws.{agreed, declined}
use Rattle.turn.proofs.TableLaws.{fin_ok_no}
use Rattle.turn.proofs.TurnLaws.{as_turn, refused_in_place}
use mathlib.Core.Path.{refl, sym, ◌∙◌}
use Rattle.turn.proofs.ends.on_end_answered.Goals as goal

pub returns-then-not-takes : goal.returns-then-not-takes
returns-then-not-takes g c = refused_in_place _ (fin_ok_no c.requires.ready c.takes.ensures c.if-not-takes.true _) refl

pub returns-then-accepted : goal.returns-then-accepted
returns-then-accepted g c = agreed c.requires.ready (sym c.takes.ensures ∙ c.if-not-takes.false) c.if-accepted.true c.put_uncertain-done.ensures.laid c.to_idle.ensures (as_turn c.finished.ensures)

pub returns : goal.returns
returns g c = declined c.requires.ready (sym c.takes.ensures ∙ c.if-not-takes.false) c.if-accepted.false c.at_elapsed.ensures (as_turn c.finished-2.ensures)
