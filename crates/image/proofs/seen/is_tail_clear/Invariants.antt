-- `image::seen::is_tail_clear` meets its contract. The invariant: what is left to test says what the whole says.
use Rattle.std.proofs.Common.{◌≡◌, ◌<◌, ◌*◌, ◌^◌, drop}
use Rattle.book.specs.Sound.{zeros}
use Rattle.image.proofs.seen.is_tail_clear.Given as goal

abbrev pub invariant-loop-word : goal.invariant-loop-word
invariant-loop-word l = record { fits : l.n < 2 ^ 16; left : zeros (drop l.n (drop (8 * l.word-index) l.octets)) ≡ zeros (drop l.fn.n l.octets) }
