-- `text::hearing::feed` meets its contract. The invariant: the lines that are left, taken now, give the whole (HearingLaws: `Going`).
use native.Mathlib.Omega.{arith}
use borrow.Author.Rules.{rules}
use Rattle.text.proofs.HearingLaws.{going_start, going_full, going_within, going_none, going_step, going_end}
use Rattle.text.proofs.hearing.feed.Goals as goal

pub loop-init : goal.loop-init
loop-init g c = going_start g.H.Hearer.state _ _ g.H.Hearer.answer c.args.s c.args.unit.now c.args.input.now c.args.out.now

pub returns-then-out-fed : goal.returns-then-out-fed
returns-then-out-fed g c = going_full c.loop.invariant (search rules)

pub overflow_add-fed : goal.overflow_add-fed
overflow_add-fed g c = let h = going_within c.loop.invariant c.line-next.ensures in omega arith

pub returns-then-next-eq0 : goal.returns-then-next-eq0
returns-then-next-eq0 g c = going_none c.loop.invariant c.line-next.ensures (search rules)

pub loop-preserved : goal.loop-preserved
loop-preserved g c = going_step c.loop.invariant c.line-next.ensures (omega arith) (search rules) _ (omega arith)

pub returns : goal.returns
returns g c = going_end c.loop.invariant (omega arith)
