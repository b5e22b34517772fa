-- `by_value::stelquorum_by_value` meets its contract. Closed by CallLaws: the verdict of `handle`, as a number.
use Rattle.by_value.proofs.CallLaws.{numbered}
use Rattle.by_value.proofs.stelquorum_by_value.Goals as goal

pub returns : goal.returns
returns c = numbered _ _ _ c.handle.ensures c.refusal_in.ensures
