-- `turn::ends::on_abort` meets its contract. Closed by laws of EndLaws and TableLaws.
use Rattle.turn_laws.proofs.EndLaws.{aborted}
use Rattle.turn.proofs.TableLaws.{abort_no}
use Rattle.turn.proofs.TurnLaws.{as_turn, refused_in_place}
use mathlib.Core.Path.{refl, sym, ◌∙◌}
use Rattle.turn.proofs.ends.on_abort.Goals as goal

pub returns-then-not-takes : goal.returns-then-not-takes
returns-then-not-takes g c = refused_in_place _ (abort_no c.requires.ready c.takes.ensures c.if-not-takes.true _) refl

pub returns : goal.returns
returns g c = aborted c.requires.ready c.args.reason (sym c.takes.ensures ∙ c.if-not-takes.false) c.put_lost-done.ensures c.to_idle.ensures (as_turn c.finished.ensures)
