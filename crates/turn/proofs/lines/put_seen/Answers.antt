-- `turn::lines::put_seen` meets its contract. Closed by laws of DataLaws.
use Rattle.turn_laws.proofs.DataLaws.{seen_none, seen_some}
use borrow.Author.Rules.{rules}
use Rattle.turn.proofs.lines.put_seen.Goals as goal

pub returns-then-n-eq0-clause-laid : goal.returns-then-n-eq0-clause-laid
returns-then-n-eq0-clause-laid c = search seen_none

pub returns-clause-laid : goal.returns-clause-laid
returns-clause-laid c = seen_some _ (search rules) (search rules) (rw c.to_be_bytes.ensures at c.put_line.ensures.laid)
