-- `embed::stelquorum_event` meets its contract. Closed by CallLaws: what the engine answers has room in a number.
use borrow.Author.Rules.{rules}
use Rattle.embed.proofs.CallLaws.{handled_counts}
use Rattle.embed.proofs.stelquorum_event.Goals as goal

pub number-requires : goal.number-requires
number-requires c =
    let a = c.args in
    handled_counts a.image.now a.event.now a.out.now (λ i. search rules) (λ i. search rules) c.handle.ensures
