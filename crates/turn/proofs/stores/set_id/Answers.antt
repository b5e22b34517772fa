-- `turn::stores::set_id` meets its contract. Closed by laws of StoreLaws.
use Rattle.image.proofs.StoreLaws.{id_stored}
use Rattle.image.specs.Image.{unit_of}
use mathlib.Core.Path.{ap, ◌∙◌}
use borrow.Author.Rules.{rules}
use Rattle.turn.proofs.stores.set_id.Goals as goal

pub returns : goal.returns
unfolding unit_of
returns c = let a = c.args in ap unit_of c.set_two.ensures ∙ id_stored a.image.now (search rules) a.i a.id (search rules)
