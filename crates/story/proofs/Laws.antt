-- A call that takes nothing leaves the story as it was, whatever was said. Closed by computation.
use Rattle.std.proofs.Common.{ℕ, List, [], refl}
use Rattle.text.specs.Hearing as Hearing
use Rattle.story.specs.Taking.{Takes}
use Rattle.story.specs.declared.Story.{Story}

pub takes_none : (s : Story) (said : List ℕ) → Takes s [] (record s { said = said })
unfolding Hearing.feeding
takes_none s said = record { room = 0; session = refl; width = 0; reader = refl }
