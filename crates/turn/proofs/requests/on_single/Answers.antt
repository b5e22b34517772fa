-- `turn::requests::on_single` meets its contract. Closed by laws of RequestLaws and TableLaws.
use Rattle.turn.proofs.TableLaws.{single_no}
use Rattle.turn.proofs.TurnLaws.{refused_in_place}
use Rattle.turn_laws.proofs.RequestLaws.{idle_single}
use mathlib.Core.Path.{refl, sym, ◌∙◌}
use Rattle.turn.proofs.requests.on_single.Goals as goal

pub returns-then-not-takes : goal.returns-then-not-takes
returns-then-not-takes g c = refused_in_place _ (single_no c.requires.ready c.takes.ensures c.if-not-takes.true _ _) refl

pub on_idle_single-requires-clause-in_state : goal.on_idle_single-requires-clause-in_state
on_idle_single-requires-clause-in_state g c = idle_single c.requires.ready (sym c.takes.ensures ∙ c.if-not-takes.false)
