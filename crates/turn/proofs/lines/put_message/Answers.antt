-- `turn::lines::put_message` meets its contract. Closed by laws of PenLaws.
use Rattle.said.proofs.PenLaws.{line_bare}
use borrow.Author.Rules.{rules}
use Rattle.turn.proofs.lines.put_message.Goals as goal

pub returns-clause-laid : goal.returns-clause-laid
returns-clause-laid g c = line_bare c.args.head c.args.m.now.frame.now c.args.m.now.header.end _ (search rules) (search rules) c.put_head-next.ensures c.put_bare.ensures
