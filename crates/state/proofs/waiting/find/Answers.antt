-- `state::waiting::find` meets its contract. What the chain answers, in std's words; then `placed` of WaitingLaws.
use Rattle.std.proofs.Common.{rules, tests}
use Rattle.std.specs.Prelude.{◌≡◌, take, eqb}
use Rattle.std.specs.List.{position}
use Rattle.std.proofs.lemmas.Iterator.{YieldsList-from_slice, YieldsList-from_take}
use Rattle.std.proofs.lemmas.Iterator.Search.{position_from_yields_List}
use mathlib.Core.Path.{◌∙◌}
use Rattle.state.proofs.WaitingLaws.{placed}
use Rattle.state.proofs.waiting.find.Goals as goal

pub returns : goal.returns
returns c =
    let e : c.position.result ≡ position (λ x. eqb c.args.id x) (take c.args.n c.args.w) =
    position_from_yields_List (λ x. eqb c.args.id x) _ _ c.position.result c.position.ensures.ran
    (YieldsList-from_take c.args.n (YieldsList-from_slice c.args.w (cc)) c.take.ensures.count)
    (λ x b q k. search (rules, tests))
    in
    e ∙ placed c.args.id (take c.args.n c.args.w)
