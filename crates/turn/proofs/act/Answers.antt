-- `turn::act` meets its contract. Closed by laws of StepLaws and TurnLaws.
use Rattle.turn_laws.proofs.StepLaws.{does_as, does_transfer, does_start, does_reply, does_data, does_malformed}
use Rattle.turn.proofs.TurnLaws.{refused_in_place, acted_as}
use mathlib.Core.Path.{refl}
use Rattle.book.specs.Step.{does}
use Rattle.turn.proofs.act.Goals as goal

pub returns-in-Malformed : goal.returns-in-Malformed
returns-in-Malformed g c = acted_as (g.H.Seen.unit c.args.u.now) c.args.event.now c.event_of.ensures (refused_in_place (g.H.Seen.unit c.args.u.now) (does_malformed (g.H.Seen.unit c.args.u.now) c.args.event.now c.in-Malformed.is) refl)

pub returns-in-Transfer : goal.returns-in-Transfer
unfolding does
returns-in-Transfer g c = acted_as (g.H.Seen.unit c.args.u.now) c.args.event.now c.event_of.ensures (does_transfer (g.H.Seen.unit c.args.u.now) c.args.event.now _ _ _ c.in-Transfer.is c.after.ensures c.on_request.ensures)

pub returns-in-End : goal.returns-in-End
unfolding does
returns-in-End g c = acted_as (g.H.Seen.unit c.args.u.now) c.args.event.now c.event_of.ensures (does_as (g.H.Seen.unit c.args.u.now) c.args.event.now _ c.in-End.is c.on_end.ensures)

pub returns-in-Tick : goal.returns-in-Tick
unfolding does
returns-in-Tick g c = acted_as (g.H.Seen.unit c.args.u.now) c.args.event.now c.event_of.ensures (does_as (g.H.Seen.unit c.args.u.now) c.args.event.now _ c.in-Tick.is c.on_tick.ensures)

pub returns-in-StartAsked : goal.returns-in-StartAsked
unfolding does
returns-in-StartAsked g c = acted_as (g.H.Seen.unit c.args.u.now) c.args.event.now c.event_of.ensures (does_start (g.H.Seen.unit c.args.u.now) c.args.event.now _ _ c.in-StartAsked.is c.after-in-StartAsked.ensures c.on_start.ensures)

pub returns-in-StartAnswered : goal.returns-in-StartAnswered
unfolding does
returns-in-StartAnswered g c = acted_as (g.H.Seen.unit c.args.u.now) c.args.event.now c.event_of.ensures (does_reply (g.H.Seen.unit c.args.u.now) c.args.event.now _ _ c.in-StartAnswered.is c.after-in-StartAnswered.ensures c.on_reply.ensures)

pub returns-in-Data : goal.returns-in-Data
unfolding does
returns-in-Data g c = acted_as (g.H.Seen.unit c.args.u.now) c.args.event.now c.event_of.ensures (does_data (g.H.Seen.unit c.args.u.now) c.args.event.now _ c.in-Data.is c.after-in-Data.ensures c.on_data.ensures)

pub returns-in-EndAsked : goal.returns-in-EndAsked
unfolding does
returns-in-EndAsked g c = acted_as (g.H.Seen.unit c.args.u.now) c.args.event.now c.event_of.ensures (does_as (g.H.Seen.unit c.args.u.now) c.args.event.now _ c.in-EndAsked.is c.on_end_asked.ensures)

pub returns-in-EndAnswered : goal.returns-in-EndAnswered
unfolding does
returns-in-EndAnswered g c = acted_as (g.H.Seen.unit c.args.u.now) c.args.event.now c.event_of.ensures (does_as (g.H.Seen.unit c.args.u.now) c.args.event.now _ c.in-EndAnswered.is c.on_end_answered.ensures)

pub returns-in-Aborted : goal.returns-in-Aborted
unfolding does
returns-in-Aborted g c = acted_as (g.H.Seen.unit c.args.u.now) c.args.event.now c.event_of.ensures (does_as (g.H.Seen.unit c.args.u.now) c.args.event.now _ c.in-Aborted.is c.on_abort.ensures)

pub returns-in-Dropped : goal.returns-in-Dropped
unfolding does
returns-in-Dropped g c = acted_as (g.H.Seen.unit c.args.u.now) c.args.event.now c.event_of.ensures (does_as (g.H.Seen.unit c.args.u.now) c.args.event.now _ c.in-Dropped.is c.on_abort-in-Dropped.ensures)
