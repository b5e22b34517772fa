-- `turn::ends::on_end` meets its contract. Closed by laws of EndLaws and TableLaws.
use Rattle.turn_laws.proofs.EndLaws.{asked_end}
use Rattle.turn.proofs.TableLaws.{end_no}
use Rattle.turn.proofs.TurnLaws.{as_turn, refused_in_place}
use mathlib.Core.Path.{refl, sym, ◌∙◌}
use Rattle.turn.proofs.ends.on_end.Goals as goal

pub returns-then-not-takes : goal.returns-then-not-takes
returns-then-not-takes g c = refused_in_place _ (end_no c.requires.ready c.takes.ensures c.if-not-takes.true) refl

pub returns : goal.returns
returns g c = asked_end c.requires.ready (sym c.takes.ensures ∙ c.if-not-takes.false) c.put_line-done.ensures.laid c.at_elapsed.ensures (as_turn c.finished.ensures)
