-- `turn::data::on_data` meets its contract. Closed by laws of DataLaws and TableLaws.
use Rattle.turn_laws.proofs.DataLaws.{heard_bad, heard_good}
use Rattle.turn.proofs.TableLaws.{data_no}
use Rattle.turn.proofs.TurnLaws.{refused_in_place}
use mathlib.Core.Path.{refl, sym, ◌∙◌}
use Rattle.turn.proofs.data.on_data.Goals as goal

pub returns-then-not-takes : goal.returns-then-not-takes
returns-then-not-takes g c = refused_in_place _ (data_no c.requires.ready c.takes.ensures c.if-not-takes.true _) refl

pub returns-in-Err : goal.returns-in-Err
returns-in-Err g c = heard_bad c.args.frame.now (sym c.in-Err.ensures) c.requires.ready (sym c.takes.ensures ∙ c.if-not-takes.false) refl c.from.ensures c.fall.ensures

pub returns-in-Ok : goal.returns-in-Ok
returns-in-Ok g c = heard_good c.args.frame.now (sym c.in-Ok.ensures.1) refl (rw c.in-Ok.ensures.0 at c.on_message.ensures)
