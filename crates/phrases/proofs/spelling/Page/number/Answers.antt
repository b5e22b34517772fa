-- `phrases::spelling::Page::number` meets its contract. Closed by SpellLaws: one digit after the other.
use native.Mathlib.Omega.{arith}
use Rattle.phrases.proofs.PageLaws.{then, within, writes_as}
use Rattle.phrases.proofs.SpellLaws.{number_said}
use Rattle.phrases.proofs.spelling.Page.number.Goals as goal

pub returns : goal.returns
returns c = writes_as (number_said c.args.n) (within (then (then (then (then c.digit.ensures c.digit-2.ensures) c.digit-3.ensures) c.digit-4.ensures) (rw c.last_digit.ensures at c.say.ensures)) (omega arith))
