-- `image::seen::is_tail_clear` meets its contract. The invariant: what is left to test says what the whole says (WordLaws).
use Rattle.std.proofs.Common.{rules, ◌≡◌, [], get_or, cond, ltb, ◌*◌, ◌/◌, ◌^◌, arith}
use Rattle.std.specs.Int.{w64, from_le_bytes}
use Rattle.image.proofs.WordLaws.{tail_stop, tail_on}
use Rattle.image.proofs.seen.is_tail_clear.Goals as goal

pub returns-then-unbounded_shr-ne0 : goal.returns-then-unbounded_shr-ne0
returns-then-unbounded_shr-ne0 c =
    let n = c.loop-word.n in
    let number : c.from_le_bytes.result ≡ from_le_bytes w64 (get_or c.as_chunks.result.0.now c.loop-word.word-index []) = search rules in
    let past : c.unbounded_shr.result ≡ cond (ltb (8 * n) 64) (c.from_le_bytes.result / 2 ^ (8 * n)) 0 = search rules in
    tail_stop c.args.octets.now n c.loop-word.word-index c.as_chunks.result.0.now (λ j. search rules) c.as_chunks.ensures.front (search rules) number past
    c.loop-word.invariant.left c.if-unbounded_shr-ne0.true

pub loop-word-preserved : goal.loop-word-preserved
loop-word-preserved c =
    let n = c.loop-word.n in
    let number : c.from_le_bytes.result ≡ from_le_bytes w64 (get_or c.as_chunks.result.0.now c.loop-word.word-index []) = search rules in
    let past : c.unbounded_shr.result ≡ cond (ltb (8 * n) 64) (c.from_le_bytes.result / 2 ^ (8 * n)) 0 = search rules in
    record {
      fits = omega arith;
      left =
          tail_on c.args.octets.now n c.loop-word.word-index c.as_chunks.result.0.now (λ j. search rules) c.as_chunks.ensures.front (search rules) number past
          c.loop-word.invariant.left c.if-unbounded_shr-ne0.false c.saturating_sub-n.ensures;
    }
