-- `words::inputs::event` meets its contract. Closed by KindLaws: the words of each event.
use mathlib.Core.Path.{ap, ◌∙◌}
use native.Mathlib.Omega.{arith}
use Rattle.book.specs.declared.Event.TheVariants.{Transfer}
use Rattle.phrases.proofs.PageLaws.{within, writes_as}
use Rattle.words.proofs.KindLaws.{event_said}
use Rattle.words.proofs.inputs.event.Goals as goal

pub returns-in-Malformed : goal.returns-in-Malformed
returns-in-Malformed c = within (writes_as (event_said c.args.s.now c.event_of.ensures c.in-Malformed.is) c.none.ensures) (omega arith)

pub returns-in-Transfer-true-default : goal.returns-in-Transfer-true-default
returns-in-Transfer-true-default c = within (writes_as (event_said c.args.s.now c.event_of.ensures (c.in-Transfer-true-default.is ∙ ap (λ b. Transfer b c.in-Transfer-true-default.t) c.in-Transfer-true-default.field-0-test)) c.with_terms.ensures) (omega arith)

pub returns-in-Transfer-false-default : goal.returns-in-Transfer-false-default
returns-in-Transfer-false-default c = within (writes_as (event_said c.args.s.now c.event_of.ensures (c.in-Transfer-false-default.is ∙ ap (λ b. Transfer b c.in-Transfer-false-default.t) c.in-Transfer-false-default.field-0-test)) c.with_terms-in-Transfer-false-default.ensures) (omega arith)

pub returns-in-End : goal.returns-in-End
returns-in-End c = within (writes_as (event_said c.args.s.now c.event_of.ensures c.in-End.is) c.say.ensures) (omega arith)

pub returns-in-Tick : goal.returns-in-Tick
returns-in-Tick c = within (writes_as (event_said c.args.s.now c.event_of.ensures c.in-Tick.is) c.say-in-Tick.ensures) (omega arith)

pub returns-in-StartAsked : goal.returns-in-StartAsked
returns-in-StartAsked c = within (writes_as (event_said c.args.s.now c.event_of.ensures c.in-StartAsked.is) c.with_start.ensures) (omega arith)

pub returns-in-StartAnswered : goal.returns-in-StartAnswered
returns-in-StartAnswered c = within (writes_as (event_said c.args.s.now c.event_of.ensures c.in-StartAnswered.is) c.with_reply.ensures) (omega arith)

pub returns-in-Data : goal.returns-in-Data
returns-in-Data c = within (writes_as (event_said c.args.s.now c.event_of.ensures c.in-Data.is) c.with_frame.ensures) (omega arith)

pub returns-in-EndAsked : goal.returns-in-EndAsked
returns-in-EndAsked c = within (writes_as (event_said c.args.s.now c.event_of.ensures c.in-EndAsked.is) c.say-in-EndAsked.ensures) (omega arith)

pub returns-in-EndAnswered : goal.returns-in-EndAnswered
returns-in-EndAnswered c = within (writes_as (event_said c.args.s.now c.event_of.ensures c.in-EndAnswered.is) c.with_result.ensures) (omega arith)

pub returns-in-Aborted : goal.returns-in-Aborted
returns-in-Aborted c = within (writes_as (event_said c.args.s.now c.event_of.ensures c.in-Aborted.is) c.say-in-Aborted.ensures) (omega arith)

pub returns-in-Dropped : goal.returns-in-Dropped
returns-in-Dropped c = within (writes_as (event_said c.args.s.now c.event_of.ensures c.in-Dropped.is) c.say-in-Dropped.ensures) (omega arith)
