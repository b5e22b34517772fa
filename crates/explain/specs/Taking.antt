-- What the program's reader is after a call of `tell`: that of one `words::feed`, with any room, over the octets that were taken.
use Rattle.std.specs.Prelude.{◌≡◌, ℕ, List, length, take}
use Rattle.words.specs.Feeding.{standing, feeding}
use Rattle.explain.specs.declared.Explain.{Explain}

pub record Takes (s : Explain) (told : List ℕ) (t : Explain) : Type 0 where
  pub part : List ℕ
  pub room : ℕ
  pub reader : standing t.reader ≡ (feeding (length part) room (standing s.reader) part).reader
  pub taken : told ≡ take (feeding (length part) room (standing s.reader) part).taken part
