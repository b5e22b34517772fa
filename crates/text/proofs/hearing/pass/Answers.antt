-- `text::hearing::pass` meets its contract. Closed by HearingLaws, one law for each way out.
use borrow.Author.Rules.{rules}
use Rattle.text.proofs.HearingLaws.{pass_ends, pass_open}
use Rattle.text.proofs.hearing.pass.Goals as goal

pub returns-then-end-input : goal.returns-then-end-input
returns-then-end-input g c =
    pass_ends g.H.Hearer.state _ _ g.H.Hearer.answer c.args.s c.args.unit.now c.args.input.now c.args.out.now c.args.at _ c.requires.passing
    c.line_feed-end.ensures (search rules) _ _ _ _ c.refuse.ensures c.on.ensures

pub returns : goal.returns
returns g c =
    pass_open g.H.Hearer.state _ _ g.H.Hearer.answer c.args.s c.args.unit.now c.args.input.now c.args.out.now c.args.at _ c.line_feed-end.ensures
    (search rules) _ c.not_ended.ensures
