-- `finish` of the program meets its contract: no more octets are taken.
use Rattle.story.proofs.Laws.{takes_none}
use Rattle.story.proofs.StoryTeller.finish.Goals as goal

pub returns : goal.returns
returns g c = takes_none c.args.self.now _
