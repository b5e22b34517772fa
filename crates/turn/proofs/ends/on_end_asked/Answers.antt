-- `turn::ends::on_end_asked` meets its contract. Closed by laws of EndLaws and TableLaws.
use Rattle.turn_laws.proofs.EndLaws.{was_ended}
use Rattle.turn.proofs.TableLaws.{fin_no}
use Rattle.turn.proofs.TurnLaws.{as_turn, refused_in_place}
use mathlib.Core.Path.{refl, sym, ◌∙◌}
use Rattle.turn.proofs.ends.on_end_asked.Goals as goal

pub returns-then-not-takes : goal.returns-then-not-takes
returns-then-not-takes g c = refused_in_place _ (fin_no c.requires.ready c.takes.ensures c.if-not-takes.true) refl

pub returns : goal.returns
returns g c = was_ended c.requires.ready (sym c.takes.ensures ∙ c.if-not-takes.false) c.put_line-pen.ensures.laid c.put_uncertain-next.ensures.laid c.put_line-done.ensures.laid c.to_idle.ensures (as_turn c.finished.ensures)
