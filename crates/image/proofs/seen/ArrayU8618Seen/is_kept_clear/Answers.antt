-- An image's `is_kept_clear` meets its contract. The octets of a part are octets (WordLaws).
use Rattle.std.proofs.Common.{rules}
use Rattle.image.proofs.WordLaws.{kept_small}
use Rattle.image.proofs.seen.ArrayU8618Seen.is_kept_clear.Goals as goal

pub returns-clause-octets : goal.returns-clause-octets
returns-clause-octets c = kept_small c.args.self.now (λ j. search rules)
