-- `blocks::turn` meets its contract. Closed by Laws, one law for each way out.
use Rattle.std.proofs.Common.{◌≤◌, ◌+◌, ◌-◌, length, arith, sym}
use Rattle.blocks.specs.Passing.{none, more}
use Rattle.blocks.proofs.Laws.{passed_none, passed_told, some_rest}
use Rattle.blocks.proofs.turn.Goals as goal

pub returns-in_default : goal.returns-in_default
returns-in_default g c = (_, passed_none _ c.in_default.ensures, tt)

pub returns-then-n-eq0 : goal.returns-then-n-eq0
returns-then-n-eq0 g c = let r = c.in-Ok.ensures.1 in (_, passed_told _ r.0 _ 0 r.1 r.2 (more none c.finish.ensures), tt)

pub returns : goal.returns
returns g c =
    let r = c.in-Ok.ensures.1 in
    let k : c.args.held + c.in-Ok.n - c.tell_all-taken.result ≤ length c.keep_rest.new.block = omega (arith, c.in-Ok.ensures.0) in
    (_, passed_told _ r.0 _ c.tell_all-taken.result r.1 r.2 c.tell_all-taken.ensures.took, some_rest _ _ c.if-page.then_some _ _ c.then_some.ensures k (sym c.keep_rest.ensures))
