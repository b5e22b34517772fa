-- `blocks::read_on` meets its contract. Closed by Laws: what a read puts behind the octets that are held.
use Rattle.std.proofs.Common.{rules}
use Rattle.blocks.proofs.Laws.{reads}
use Rattle.blocks.proofs.read_on.Goals as goal

pub returns : goal.returns
returns g c = reads _ _ c.args.block.now _ c.args.held _ c.requires (search rules) c.read.ensures.bound c.read.ensures.bytes
