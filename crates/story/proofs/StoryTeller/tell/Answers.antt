-- `tell` of the program meets its contract. Of an open line nothing is taken.
use Rattle.story.proofs.Laws.{takes_none}
use Rattle.story.proofs.StoryTeller.tell.Goals as goal

pub returns-in_default-clause-took : goal.returns-in_default-clause-took
returns-in_default-clause-took g c = takes_none c.args.self.now c.args.self.now.said
