-- `blocks::keep_rest` meets its contract. Closed by what `copy_within` leaves at the front.
use Rattle.blocks.proofs.Laws.{rest_in_front}
use Rattle.blocks.proofs.keep_rest.Goals as goal

pub returns : goal.returns
returns c = rest_in_front c.args.block.now _ c.args.from c.args.n c.requires.from_le_n c.requires.in_block c.copy_within.ensures.after
