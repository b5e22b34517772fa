-- `turn::lines::put_note` meets its contract. Closed by laws of LineLaws, one for each way out.
use Rattle.turn.proofs.LineLaws.{plain_put, typed_put}
use Rattle.turn.proofs.MoveLaws.{bit_weight}
use mathlib.Core.Path.{◌∙◌}
use borrow.Author.Rules.{rules}
use Rattle.turn.proofs.lines.put_note.Goals as goal

pub returns-in_default : goal.returns-in_default
returns-in_default c = plain_put c.args.note c.args.name.now _ (search rules) (search rules) (search rules) (c.from-shot.ensures ∙ bit_weight c.args.note.multi_shot) c.in_default.is c.put_octets-next.ensures c.put_sender.ensures

pub returns : goal.returns
returns c = typed_put c.args.note c.args.name.now _ (search rules) (search rules) (search rules) (c.from-shot.ensures ∙ bit_weight c.args.note.multi_shot) c.in-Some.is c.put_octets-next-2.ensures c.put_sender-2.ensures
