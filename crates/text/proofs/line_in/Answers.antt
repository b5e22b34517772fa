-- `text::line_in` meets its contract. Closed by FeedLaws: the pairs of digits at the front are the line's own.
use Rattle.std.proofs.Common.{rules}
use Rattle.text.proofs.FeedLaws.{line_open, line_ended}
use Rattle.text.proofs.line_in.Goals as goal

pub returns-then-s-end : goal.returns-then-s-end
returns-then-s-end c =
    let o = c.octets_in-n.ensures in
    (line_open c.args.s.now _ c.octets_in-n.result c.line_feed-end.result (search rules) o.count c.line_feed-end.ensures (search rules), (o.octets, search rules))

pub returns : goal.returns
returns c =
    let o = c.octets_in-n.ensures in (
      line_ended c.args.s.now _ c.octets_in-n.result c.line_feed-end.result (search rules) o.count c.line_feed-end.ensures c.if-s-end.false _ c.event_len.ensures,
      (o.octets, search rules),
    )
