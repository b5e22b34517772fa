-- `text::octets_in` meets its contract. The invariant: the octets of the pairs that are left give, put now, what all of them give at the start (LineLaws: `Begun`).
use mathlib.Core.Path.{◌≡◌, sym, ◌∙◌}
use native.Mathlib.Omega.{arith}
use Rattle.text.proofs.LineLaws.{begun_step, begun_stop, begun_end}
use Rattle.text.proofs.octets_in.Goals as goal

pub returns-in_default-clause-count : goal.returns-in_default-clause-count
returns-in_default-clause-count c = (begun_stop c.loop-i.invariant (omega arith) (omega arith) (sym c.octet_of.ensures ∙ c.in_default.is)).0

pub returns-in_default-clause-octets : goal.returns-in_default-clause-octets
returns-in_default-clause-octets c = (begun_stop c.loop-i.invariant (omega arith) (omega arith) (sym c.octet_of.ensures ∙ c.in_default.is)).1

pub loop-i-preserved : goal.loop-i-preserved
loop-i-preserved c = begun_step c.loop-i.invariant _ (omega arith) (sym c.octet_of.ensures ∙ c.in-Some.is)

pub returns-clause-count : goal.returns-clause-count
returns-clause-count c = let n : c.loop-i.i ≡ c.min-n.result = omega arith in sym n ∙ (begun_end c.loop-i.invariant (omega arith)).0

pub returns-clause-octets : goal.returns-clause-octets
returns-clause-octets c = (begun_end c.loop-i.invariant (omega arith)).1
