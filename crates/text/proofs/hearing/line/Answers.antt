-- `text::hearing::line` meets its contract. Closed by HearingLaws, one law for each way out.
use mathlib.Core.Path.{sym}
use Rattle.text.proofs.HearingLaws.{line_ends, line_open}
use Rattle.text.proofs.hearing.line.Goals as goal

pub returns-in-Some : goal.returns-in-Some
returns-in-Some g c =
    line_ends g.H.Hearer.state _ _ g.H.Hearer.answer c.args.s c.args.unit.now c.args.input.now c.args.out.now c.args.at _ _ _ c.hear.ensures (sym c.if-s.false) _ _
    c.in-Some.is c.on.ensures

pub returns-in-None : goal.returns-in-None
returns-in-None g c =
    line_open g.H.Hearer.state _ _ g.H.Hearer.answer c.args.s c.args.unit.now c.args.input.now c.args.out.now c.args.at _ _ _ c.hear.ensures c.in-None.is _
    c.not_ended.ensures
