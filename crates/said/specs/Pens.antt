-- Lines laid into the lent buffer, one after the other, by a pen: the place after them, and how many there are.
-- No public contract speaks of this file, only contracts of functions inside a crate: a reader of 01 may skip it.
use Rattle.std.specs.Prelude.{ℕ, ◌+◌, ◌≡◌, List, length}
use Rattle.octets.specs.Put.{Put}
use Rattle.book.specs.Lines.{laid}
use Rattle.said.specs.declared.Pen.{Pen}

-- the lines ls were laid from the pen p on; the pen is then q
pub record Laid (before : List ℕ) (p : Pen) (ls : List (List ℕ)) (after : List ℕ) (q : Pen) : Type 0 where
  pub put : Put before p.at (laid ls) after q.at
  pub count : q.lines ≡ p.lines + length ls
