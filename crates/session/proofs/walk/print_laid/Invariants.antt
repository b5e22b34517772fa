-- `session::walk::print_laid` meets its contract. The invariant: the lines that are left, printed now, give the whole (WalkLaws: `Walked`).
use Rattle.std.proofs.Common.{◌-◌}
use Rattle.session.proofs.WalkLaws.{Walked}
use Rattle.session.proofs.walk.print_laid.Given as goal

abbrev pub invariant-loop : goal.invariant-loop
invariant-loop l = Walked l.initial.out l.at l.laid l.n l.out l.place l.rest (l.n - l.counter)
