-- What the functions over a sound unit ask of it, and those over a frame that was read ask of the frame. A sound unit is ready (crate state,
-- proofs/Sounds); a frame whose reading is whole reads so (proofs/Views).
-- Of public contracts only `state::sound::sound` (a sound unit is ready) and the moves of crate turn's `Held` speak of it: a reader of 01 may skip it.
use Rattle.std.specs.Prelude.{ℕ, ◌≤◌, ◌<◌, ◌≡◌, List, length, Ok}
use Rattle.frame.specs.declared.Header.{Header}
use Rattle.frame.specs.Reading.{octet, reading_of}
use Rattle.book.specs.Picture.{picture, setup_of, state_of}
use Rattle.book.specs.Sound.{limit_of}
use Rattle.book.specs.declared.Unit.{Unit as Value}

pub record Ready (u : Value) : Type 0 where
  -- it is the picture of its state
  pub whole : u ≡ picture (setup_of u) (state_of u)
  pub named : u.letters ≤ 32
  pub few : u.count ≤ 8
  pub known : u.state < 5
  pub early : (u.state ≡ 0 → ⊥) → u.elapsed < limit_of u
  pub wide : length u.name ≡ 32
  pub eight : length u.waiting ≡ 8
  pub held : u.octets ≤ 554

-- the octets s were read by the code as a whole frame: header h, n extension fields
pub record Reads (s : List ℕ) (h : Header) (n : ℕ) : Type 0 where
  pub reads : reading_of s ≡ Ok (record { header = h; extensions = n })
  pub small : (i : ℕ) → octet s i < 256
  -- what the code needs to know of the numbers, so that it is found here
  pub few : n ≤ 511
  pub two : 2 ≤ h.end
  pub within : h.end ≤ length s
  pub short : h.end ≤ 554
