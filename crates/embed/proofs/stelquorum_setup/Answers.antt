-- `embed::stelquorum_setup` meets its contract. Closed by CallLaws: what setup answers has room in a number.
use Rattle.embed.proofs.CallLaws.{setup_counts}
use Rattle.embed.proofs.stelquorum_setup.Goals as goal

pub number-requires : goal.number-requires
number-requires c = setup_counts _ _ _ _ _ c.if-image-ne618.false c.setup.ensures
