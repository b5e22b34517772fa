-- `turn::moves::rest` meets its contract. Closed by laws of MoveLaws.
use Rattle.turn.proofs.MoveLaws.{rested_4, rested_not}
use Rattle.turn.proofs.moves.rest.Goals as goal

pub returns-then-state-eq4 : goal.returns-then-state-eq4
returns-then-state-eq4 g c = rested_4 (g.H.Seen.unit c.args.u.now) c.state.ensures c.if-state-eq4.true c.at_elapsed.ensures

pub returns-else-state-eq4 : goal.returns-else-state-eq4
returns-else-state-eq4 g c = rested_not (g.H.Seen.unit c.args.u.now) c.state.ensures c.if-state-eq4.false
