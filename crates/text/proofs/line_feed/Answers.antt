-- `text::line_feed` meets its contract. Closed by LineLaws: the first line feed is std's first place.
use Rattle.std.proofs.Common.{inl, inr, ◌∙◌, ap, arith}
use Rattle.std.specs.Option.{unwrap_or}
use Rattle.std.specs.Prelude.{length}
use Rattle.text.proofs.LineLaws.{feed_out, feed_some}
use Rattle.text.proofs.line_feed.Goals as goal

pub returns-in_default : goal.returns-in_default
returns-in_default c =
    let h = c.in_default.ensures.lookup.0 in feed_out c.args.s.now c.args.from (elim h [ inl k ↦ omega arith | inr k ↦ omega arith ])

pub returns : goal.returns
returns c =
    let h = c.in-Some.ensures.lookup.0 in
    feed_some c.args.s.now c.in-Some.rest.now c.args.from c.unwrap_or.result h.2 (c.unwrap_or.ensures ∙ ap (λ o. unwrap_or o (length c.in-Some.rest.now)) c.first_feed.ensures)
