-- `state::sound::is_among` meets its contract: by what `any` says, and the places in those words (Scan).
use Rattle.std.proofs.Common.{rules, tests, refl, ◌∙◌, ◌-◌, get_or}
use Rattle.std.proofs.lemmas.Iterator.{YieldsList-from_range}
use Rattle.std.proofs.lemmas.Iterator.Search.{any_from_yields_List}
use lib.Dec.{eqb}
use Rattle.state.proofs.Scan.{is_among}
use Rattle.state.proofs.sound.is_among.Goals as goal

pub returns : goal.returns
returns g c =
    let w = (g.S.Seen.unit c.args.u.now).waiting in
    let k = c.args.n - c.args.from in
    any_from_yields_List (λ i. eqb (get_or w i 0) c.args.id) _ _ c.any.result c.any.ensures.ran (YieldsList-from_range c.args.from c.args.n k refl refl)
    (λ x b q p. search (rules, tests))
    ∙ is_among w c.args.id c.args.from c.args.n k c.requires refl
