-- `image::seen::clear_ids` meets its contract. Closed by what `all` says, and `zeros` in its words (Zeros).
use Rattle.std.proofs.Common.{rules, tests, ◌∙◌}
use Rattle.std.proofs.lemmas.Iterator.{YieldsList-from_slice}
use Rattle.std.proofs.lemmas.Iterator.Search.{all_from_yields_List}
use lib.Dec.{eqb}
use Rattle.image.proofs.Zeros.{zeros_all}
use Rattle.image.proofs.seen.clear_ids.Goals as goal

pub returns : goal.returns
returns c =
    let s = c.args.ids.now in
    all_from_yields_List (λ x. eqb x 0) _ _ c.all.result c.all.ensures.ran (YieldsList-from_slice s cc) (λ x b q k. search (rules, tests)) ∙ zeros_all s
