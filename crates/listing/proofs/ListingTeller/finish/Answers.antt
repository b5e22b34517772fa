-- `finish` of the program meets its contract: no more octets are taken. Closed by computation, with no part at all.
use Rattle.std.proofs.Common.{[], refl}
use Rattle.text.specs.Hearing as Hearing
use Rattle.listing.proofs.ListingTeller.finish.Goals as goal

pub returns : goal.returns
unfolding Hearing.feeding
returns g c = record { part = []; room = 0; session = refl; taken = refl }
