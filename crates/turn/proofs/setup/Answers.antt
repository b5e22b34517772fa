-- `turn::setup` meets its contract. Closed by laws of SetupLaws, one for each way out.
use mathlib.Core.Path.{refl, sym, ◌∙◌}
use Rattle.turn_laws.proofs.Moved.{padded-sets}
use Rattle.turn_laws.proofs.SetupLaws.{set_up_lem, not_set, within_name}
use Rattle.turn.proofs.TurnLaws.{as_refused}
use Rattle.turn.proofs.setup.Goals as goal

pub returns-then-not-within_limits : goal.returns-then-not-within_limits
returns-then-not-within_limits g c = not_set _ _ _ c.args.name.now c.within_limits.ensures c.if-not-within_limits.true c.make.ensures (as_refused _ refl)

pub make-requires-2 : goal.make-requires-2
make-requires-2 g c = within_name _ _ _ _ (sym c.within_limits.ensures ∙ c.if-not-within_limits.false)

pub returns : goal.returns
returns g c = set_up_lem _ _ _ c.args.name.now c.within_limits.ensures c.if-not-within_limits.false (c.name_of.ensures ∙ padded-sets 32 c.args.name.now (within_name _ _ _ _ (sym c.within_limits.ensures ∙ c.if-not-within_limits.false))) c.make-2.ensures refl
