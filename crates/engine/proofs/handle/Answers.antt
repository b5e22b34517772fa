-- `engine::handle` meets its contract. Closed by laws of Entry, one for each way out.
use Rattle.engine.proofs.Entry.{short_buffer, no_image, handled}
use native.Mathlib.Omega.{arith}
use borrow.Author.Rules.{rules}
use Rattle.engine.proofs.handle.Goals as goal

pub returns-then-out-lt1024 : goal.returns-then-out-lt1024
returns-then-out-lt1024 c = short_buffer _ _ _ c.if-out-lt1024.true

pub returns-in_default : goal.returns-in_default
returns-in_default c = no_image _ _ _ c.if-out-lt1024.false c.in_default.ensures.cases

pub returns : goal.returns
returns c = handled _ _ _ c.if-out-lt1024.false c.in-Some.ensures.cases.long (λ i. omega (arith, c.slice_known-1.given i)) (search rules) (search rules) c.in-Some.ensures.cases.same c.handle.ensures
