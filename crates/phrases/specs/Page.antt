-- A page: a lent buffer, and the place up to which it is written.
use Rattle.std.specs.Prelude.{ℕ, ◌+◌, ◌≤◌, ◌≡◌, List, length}
use Rattle.octets.specs.Put.{Put}
use Rattle.phrases.specs.declared.spelling.Page.{Page}

-- n octets have room
abbrev pub Room : Page → ℕ → Type 0
Room p n = p.at + n ≤ length p.out.now

-- words were written where a page p stood, at most so many octets; every other octet stays
pub record Writes (p : Page) (words : List ℕ) (most : ℕ) (q : Page) : Type 0 where
  -- in the same buffer
  pub same : q.out.ghost_name ≡ p.out.ghost_name
  pub wide : length q.out.now ≡ length p.out.now
  pub put : Put p.out.now p.at words q.out.now q.at
  pub small : q.at ≤ p.at + most
