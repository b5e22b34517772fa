-- `session::answers::turn` meets its contract. Closed by AnswerLaws: what a unit lays has room, and its image goes on as the unit.
use native.Mathlib.Omega.{arith}
use Rattle.session.proofs.AnswerLaws.{handled}
use Rattle.session.proofs.answers.turn.Goals as goal

pub returns : goal.returns
returns c = handled c.args.unit.now c.args.event.now _ c.told-unit c.fits-unit (λ i. omega (arith, c.type_inv.event i)) c.told-laid c.handle.ensures
