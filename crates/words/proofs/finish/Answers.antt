-- `words::finish` meets its contract. Closed by LineLaws, one law for each way out.
use mathlib.Core.Path.{sym, ◌∙◌}
use Rattle.words.proofs.LineLaws.{finish_full, finish_open, finish_shut}
use Rattle.words.proofs.finish.Goals as goal

pub returns-then-out-lt-MOST : goal.returns-then-out-lt-MOST
returns-then-out-lt-MOST c = finish_full c.args.s c.args.held.now c.args.out.now c.if-out-lt-MOST.true

pub returns-then-is_open : goal.returns-then-is_open
returns-then-is_open c =
    finish_open c.args.s c.args.held.now c.args.out.now c.if-out-lt-MOST.false (sym c.is_open.ensures ∙ c.if-is_open.true) c.explain.ensures

pub returns : goal.returns
returns c = finish_shut c.args.s c.args.held.now c.args.out.now c.if-out-lt-MOST.false (sym c.is_open.ensures ∙ c.if-is_open.false)
