-- `words::inputs::setup` meets its contract. Closed by KindLaws, one law for each way out.
use mathlib.Core.Path.{refl}
use native.Mathlib.Omega.{arith}
use Rattle.phrases.proofs.PageLaws.{then, within, writes_as}
use Rattle.words.proofs.KindLaws.{setup_short, setup_yes, setup_no}
use Rattle.words.proofs.inputs.setup.Goals.{in_default, in-len7-up+else-within_limits}
use Rattle.words.proofs.inputs.setup.Goals as goal

pub returns-then-within_limits : goal.returns-then-within_limits
returns-then-within_limits c =
    writes_as (setup_yes c.args.s.now refl c.two-start.ensures c.two-end.ensures c.two-inactivity.ensures c.within_limits.ensures c.if-within_limits.true)
    (within (then (then c.limits.ensures c.say.ensures) c.beginning.ensures) (omega arith))

pub returns : goal.returns
returns c =
    within (elim c.if-s-lt7.branch [
      | in_default w ↦ writes_as (setup_short c.args.s.now w.in_default.len_below) c.none.ensures
      | in-len7-up+else-within_limits w ↦ writes_as (setup_no c.args.s.now refl w.two-start.ensures w.two-end.ensures w.two-inactivity.ensures w.within_limits.ensures w.if-within_limits.false) c.none.ensures
    ]) (omega arith)
