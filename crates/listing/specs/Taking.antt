-- What the program's session is after a call of `tell`: that of one `session::feed`, with any room, over the octets that were taken.
use Rattle.std.specs.Prelude.{◌≡◌, ℕ, List, length, take}
use Rattle.session.specs.Feeding.{Standing, standing, feeding}
use Rattle.listing.specs.declared.Listing.{Listing}

abbrev pub stands : Listing → Standing
stands s = standing s.session s.unit

pub record Takes (s : Listing) (told : List ℕ) (t : Listing) : Type 0 where
  pub part : List ℕ
  pub room : ℕ
  pub session : stands t ≡ (feeding (length part) room (stands s) part).reader
  pub taken : told ≡ take (feeding (length part) room (stands s) part).taken part
