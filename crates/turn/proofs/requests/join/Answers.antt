-- `turn::requests::join` meets its contract. Closed by laws of RequestLaws.
use Rattle.turn_laws.proofs.RequestLaws.{join_sure, join_plain}
use mathlib.Core.Path.{refl}
use Rattle.turn.proofs.requests.join.Goals as goal

pub returns-then-r-eq1 : goal.returns-then-r-eq1
returns-then-r-eq1 g c = join_sure c.args.r.now.message.frame.now c.args.r.now.message.header (g.H.Seen.unit c.args.u.now) _ c.if-r-eq1.true refl c.identifier.ensures c.append.ensures

pub returns-else-r-eq1 : goal.returns-else-r-eq1
returns-else-r-eq1 g c = join_plain c.args.r.now.message.frame.now c.args.r.now.message.header (g.H.Seen.unit c.args.u.now) c.args.r.now.asks c.if-r-eq1.false
