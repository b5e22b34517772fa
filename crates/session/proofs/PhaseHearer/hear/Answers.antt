-- `hear` of a session's phase meets its contract. Closed by LineLaws: the line that was read, by its answers.
use Rattle.text.proofs.Found.{line_read}
use Rattle.session.proofs.LineLaws.{hears_none, hears_some}
use Rattle.session.proofs.PhaseHearer.hear.Goals as goal

pub returns-in_err-line : goal.returns-in_err-line
returns-in_err-line c = hears_none _ c.args.unit.now c.args.input.now _ _ c.line_in.result _ c.line_in.ensures.0 c.in_err-line.was c.from_residual.ensures

pub returns : goal.returns
returns c =
    let e = c.line_in.ensures in
    hears_some _ c.args.unit.now c.args.input.now _ _ _ _ _ _ _ _ (line_read c.args.input.now _ _ _ _ e.0 c.in_ok-line.was e.1.0 e.1.1) c.octets_of-event.ensures c.answer-said.ensures
