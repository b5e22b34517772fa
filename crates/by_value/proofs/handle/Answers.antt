-- `by_value::handle` meets its contract. Closed by CallLaws, one law for each way out.
use mathlib.Core.Path.{sym, ap, ◌∙◌}
use Rattle.image.specs.Image.{unit_of}
use Rattle.by_value.proofs.CallLaws.{event_short, event_none, event_answers, settled, left_as_was}
use Rattle.by_value.proofs.handle.Goals as goal

pub returns-then-out-lt1024 : goal.returns-then-out-lt1024
returns-then-out-lt1024 c = event_short _ _ _ c.if-out-lt1024.true

pub returns-in_default : goal.returns-in_default
returns-in_default c = event_none _ _ _ c.if-out-lt1024.false c.in_default.ensures.cases

pub returns-then-is_ok : goal.returns-then-is_ok
returns-then-is_ok c =
    event_answers _ _ _ c.if-out-lt1024.false c.in-Some.ensures.cases.long (c.unit_in.ensures ∙ ap unit_of c.in-Some.ensures.cases.same) c.handle-turn.ensures
    (settled _ _ _ (sym c.is_ok.ensures.value ∙ c.if-is_ok.true) c.put_unit.ensures)

pub returns-else-is_ok : goal.returns-else-is_ok
returns-else-is_ok c =
    event_answers _ _ _ c.if-out-lt1024.false c.in-Some.ensures.cases.long (c.unit_in.ensures ∙ ap unit_of c.in-Some.ensures.cases.same) c.handle-turn.ensures
    (c.in-Some.ensures.cases.same ∙ left_as_was _ _ _ (sym c.is_ok.ensures.value ∙ c.if-is_ok.false))
