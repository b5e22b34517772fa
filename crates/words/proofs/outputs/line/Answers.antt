-- `words::outputs::line` meets its contract. Closed by KindLaws: the words of each kind.
use mathlib.Core.Path.{ap, ◌∙◌}
use native.Mathlib.Omega.{arith}
use Rattle.words.specs.declared.outputs.Output.TheVariants.{Transfer}
use Rattle.phrases.proofs.PageLaws.{within, writes_as}
use Rattle.words.proofs.KindLaws.{output_said}
use Rattle.words.proofs.outputs.line.Goals as goal

pub returns-in-Setup : goal.returns-in-Setup
returns-in-Setup c = within (writes_as (output_said c.args.s.now c.output_of.ensures c.in-Setup.is) c.setup.ensures) (omega arith)

pub returns-in-Transfer-true-default : goal.returns-in-Transfer-true-default
returns-in-Transfer-true-default c = within (writes_as (output_said c.args.s.now c.output_of.ensures (c.in-Transfer-true-default.is ∙ ap (λ b. Transfer b c.in-Transfer-true-default.t) c.in-Transfer-true-default.field-0-test)) c.with_terms.ensures) (omega arith)

pub returns-in-Transfer-false-default : goal.returns-in-Transfer-false-default
returns-in-Transfer-false-default c = within (writes_as (output_said c.args.s.now c.output_of.ensures (c.in-Transfer-false-default.is ∙ ap (λ b. Transfer b c.in-Transfer-false-default.t) c.in-Transfer-false-default.field-0-test)) c.with_terms-in-Transfer-false-default.ensures) (omega arith)

pub returns-in-Confirmation : goal.returns-in-Confirmation
returns-in-Confirmation c = within (writes_as (output_said c.args.s.now c.output_of.ensures c.in-Confirmation.is) c.delivered.ensures) (omega arith)

pub returns-in-End : goal.returns-in-End
returns-in-End c = within (writes_as (output_said c.args.s.now c.output_of.ensures c.in-End.is) c.say.ensures) (omega arith)

pub returns-in-Lost : goal.returns-in-Lost
returns-in-Lost c = within (writes_as (output_said c.args.s.now c.output_of.ensures c.in-Lost.is) c.reason.ensures) (omega arith)

pub returns-in-Seen : goal.returns-in-Seen
returns-in-Seen c = within (writes_as (output_said c.args.s.now c.output_of.ensures c.in-Seen.is) c.number.ensures) (omega arith)

pub returns-in-StartRequest : goal.returns-in-StartRequest
returns-in-StartRequest c = within (writes_as (output_said c.args.s.now c.output_of.ensures c.in-StartRequest.is) c.with_start.ensures) (omega arith)

pub returns-in-StartResponse : goal.returns-in-StartResponse
returns-in-StartResponse c = within (writes_as (output_said c.args.s.now c.output_of.ensures c.in-StartResponse.is) c.with_reply.ensures) (omega arith)

pub returns-in-DataRequest : goal.returns-in-DataRequest
returns-in-DataRequest c = within (writes_as (output_said c.args.s.now c.output_of.ensures c.in-DataRequest.is) c.with_frame.ensures) (omega arith)

pub returns-in-EndRequest : goal.returns-in-EndRequest
returns-in-EndRequest c = within (writes_as (output_said c.args.s.now c.output_of.ensures c.in-EndRequest.is) c.say-in-EndRequest.ensures) (omega arith)

pub returns-in-EndResponse : goal.returns-in-EndResponse
returns-in-EndResponse c = within (writes_as (output_said c.args.s.now c.output_of.ensures c.in-EndResponse.is) c.with_result.ensures) (omega arith)

pub returns-in-AbortRequest : goal.returns-in-AbortRequest
returns-in-AbortRequest c = within (writes_as (output_said c.args.s.now c.output_of.ensures c.in-AbortRequest.is) c.reason-in-AbortRequest.ensures) (omega arith)

pub returns-in-State : goal.returns-in-State
returns-in-State c = within (writes_as (output_said c.args.s.now c.output_of.ensures c.in-State.is) c.state.ensures) (omega arith)

pub returns-in-Refused : goal.returns-in-Refused
returns-in-Refused c = within (writes_as (output_said c.args.s.now c.output_of.ensures c.in-Refused.is) c.refused.ensures) (omega arith)

pub returns-in-Wrong : goal.returns-in-Wrong
returns-in-Wrong c = within (writes_as (output_said c.args.s.now c.output_of.ensures c.in-Wrong.is) c.say-in-Wrong.ensures) (omega arith)

pub returns-in-Input : goal.returns-in-Input
returns-in-Input c = within (writes_as (output_said c.args.s.now c.output_of.ensures c.in-Input.is) c.event.ensures) (omega arith)
