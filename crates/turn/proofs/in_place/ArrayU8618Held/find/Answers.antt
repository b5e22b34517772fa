-- `turn::in_place::ArrayU8618Held::find` meets its contract. What the chain answers, in std's words; then `placed` of MoveLaws.
use Rattle.std.proofs.Common.{rules, tests, refl, ◌∙◌, get_or, take, ap, ◌≡◌, eqb, arith}
use Rattle.std.specs.List.{position, range_with_len}
use Rattle.std.proofs.lemmas.Iterator.{YieldsList-from_range}
use Rattle.std.proofs.lemmas.Iterator.Search.{position_from_yields_List}
use Rattle.book.specs.Waiting.{place_of}
use Rattle.image.specs.Image.{unit_of}
use Rattle.turn.proofs.MoveLaws.{placed}
use Rattle.turn.proofs.in_place.ArrayU8618Held.find.Goals as goal

pub returns : goal.returns
returns c =
    let w = (unit_of c.args.self.now).waiting in
    let e : c.position.result ≡ position (λ i. eqb c.args.id (get_or w i 0)) (range_with_len 0 c.count.result) =
    position_from_yields_List (λ i. eqb c.args.id (get_or w i 0)) _ _ c.position.result c.position.ensures.ran (YieldsList-from_range 0 c.count.result c.count.result refl (omega arith))
    (λ x b q p. search (rules, tests))
    in
    e ∙ placed w c.args.id c.count.result (omega (arith, c.count.ensures, c.requires.few, c.requires.eight)) ∙ ap (λ n. place_of c.args.id 0 (take n w)) c.count.ensures
