-- `turn::requests::on_multi` meets its contract. Closed by laws of RequestLaws and TableLaws.
use Rattle.turn.proofs.TableLaws.{multi_no}
use Rattle.turn.proofs.TurnLaws.{refused_in_place}
use Rattle.turn_laws.proofs.RequestLaws.{next_multi}
use mathlib.Core.Path.{refl, sym, ◌∙◌}
use Rattle.turn.proofs.requests.on_multi.Goals as goal

pub returns-then-not-takes : goal.returns-then-not-takes
returns-then-not-takes g c = refused_in_place _ (multi_no c.requires.ready c.takes.ensures c.if-not-takes.true _ _ _) refl

pub on_next-requires-clause-in_state : goal.on_next-requires-clause-in_state
on_next-requires-clause-in_state g c = next_multi c.requires.ready (sym c.takes.ensures ∙ c.if-not-takes.false) (λ z. c.if-state-eq0.false (c.state.ensures ∙ z))
