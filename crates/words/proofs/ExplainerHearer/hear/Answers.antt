-- `hear` of who explains lines meets its contract. Closed by LineLaws: the word for a bare frame, or none.
use Rattle.words.proofs.LineLaws.{bare_some, bare_none, hears_plain, hears_framed}
use Rattle.words.proofs.ExplainerHearer.hear.Goals as goal

pub returns-in-Some : goal.returns-in-Some
returns-in-Some c =
    let k = bare_some c.args.input.now c.bare.ensures c.in-Some.is in
    hears_framed c.args.input.now c.args.self c.args.out.now c.args.at k.0 _ k.1 _ c.digits.ensures

pub returns-in-None : goal.returns-in-None
returns-in-None c =
    hears_plain c.args.input.now c.args.self c.args.out.now c.args.at (bare_none c.args.input.now c.bare.ensures c.in-None.is) _ c.digits-in-None.ensures
