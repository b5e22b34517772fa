-- A RUN OF `explain`: what it does with `words` in some order, until its input ends. `held` is what was read and is not yet taken, `input` what is
-- still to be read, `output` what is still to be written. Whatever the order, the blocks read and the room lent, the output is `explanation` of the
-- input (proofs/Whole). That the program's own loop (explain, src/main.rt) makes such a run is read and tested, not proved.
use Rattle.std.specs.Prelude.{ℕ, ◌≤◌, ◌≡◌, Bool, List, [], ◌++◌, length, drop}
use Rattle.words.specs.Feeding.{most, feeding, finishing}
use Rattle.text.specs.Hearing.{Standing}

pub data Run : Standing Bool → (held input output : List ℕ) → Type 0 where
  -- a block of any length is read
  read : {s : Standing Bool} {held input output : List ℕ} (block : List ℕ) → Run s (held ++ block) input output → Run s held (block ++ input) output
  -- `feed`, with any room; what it writes is written
  fed : {s : Standing Bool} {held input output : List ℕ} (room : ℕ) → Run (feeding (length held) room s held).reader (drop (feeding (length held) room s held).taken held) input output
      → Run s held input ((feeding (length held) room s held).written ++ output)
  -- nothing is left to be read, and `feed` takes no more: `finish`, and the end
  finished : {s : Standing Bool} {held : List ℕ} (room last : ℕ) → most ≤ room → (feeding (length held) room s held).taken ≡ 0 → most ≤ last
      → Run s held [] (finishing last s held)
