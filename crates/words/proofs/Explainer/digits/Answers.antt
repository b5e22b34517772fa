-- `words::Explainer::digits` meets its contract. Closed by text's laws of a line, as the code reads it.
use native.Mathlib.Omega.{arith}
use Rattle.text.proofs.Found.{line_read, line_unended}
use Rattle.words.proofs.LineLaws.{digits_wait, digits_read}
use Rattle.words.proofs.Explainer.digits.Goals as goal

pub returns-in_err-line : goal.returns-in_err-line
returns-in_err-line c = digits_wait c.args.self c.args.framed c.args.n c.args.digits.now _ _ (line_unended _ _ c.line_in.ensures.0 c.in_err-line.was) _ c.from_residual.ensures

pub overflow_add-n : goal.overflow_add-n
overflow_add-n c =
    let e = c.line_in.ensures in
    let l = line_read c.args.digits.now _ _ _ _ e.0 c.in_ok-line.was e.1.0 e.1.1 in
    omega (arith, l.next, l.ended)

pub returns : goal.returns
returns c =
    let e = c.line_in.ensures in
    digits_read c.args.self c.args.framed c.args.n c.args.digits.now _ _ c.octets_of-octets.result (line_read c.args.digits.now _ _ _ _ e.0 c.in_ok-line.was e.1.0 e.1.1) c.octets_of-octets.ensures c.explain.ensures
