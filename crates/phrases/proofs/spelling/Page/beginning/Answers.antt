-- `phrases::spelling::Page::beginning` meets its contract. Closed by SpellLaws, one law for each way out.
use native.Mathlib.Omega.{arith}
use Rattle.phrases.proofs.PageLaws.{then, within, writes_as}
use Rattle.phrases.proofs.SpellLaws.{front_is, begins_more, begins_all}
use Rattle.phrases.proofs.spelling.Page.beginning.Goals as goal

pub returns-then-s-gt32 : goal.returns-then-s-gt32
returns-then-s-gt32 c = writes_as (begins_more c.args.s.now _ (front_is c.args.s.now c.min.ensures) c.if-s-gt32.true) (within (then c.shown.ensures c.say.ensures) (omega arith))

pub returns-else-s-gt32 : goal.returns-else-s-gt32
returns-else-s-gt32 c = writes_as (begins_all c.args.s.now _ (front_is c.args.s.now c.min.ensures) c.if-s-gt32.false) (within c.shown.ensures (omega arith))
