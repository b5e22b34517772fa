-- `session::finish` meets its contract. Closed by LineLaws, one law for each way out.
use Rattle.session.specs.Feeding.{standing}
use Rattle.session.proofs.LineLaws.{finish_full, finish_listed}
use Rattle.session.proofs.finish.Goals as goal

pub returns-then-out-lt-MOST : goal.returns-then-out-lt-MOST
returns-then-out-lt-MOST c = let a = c.args in finish_full (standing a.s a.unit.now) a.held.now a.out.now c.if-out-lt-MOST.true

pub returns : goal.returns
returns c =
    let a = c.args in
    finish_listed (standing a.s a.unit.now) a.held.now a.out.now c.is_open.result c.if-out-lt-MOST.false c.is_open.ensures c.at_end.ensures.0 c.at_end.ensures.1
