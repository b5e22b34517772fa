-- `frame::writer::put_few` meets its contract. What was copied, and what lies behind it, is what `sets` says (lib.Seq, `sets-eq`).
use Prim.Native.Nat.{◌+◌}
use mathlib.Core.Path.{◌≡◌, ap, sym, ◌∙◌}
use mathlib.Core.List.{◌++◌}
use native.Mathlib.Omega.{arith}
use borrow.Author.Rules.{rules}
use lib.ListN.{length, drop}
use lib.Seq.{sets-eq}
use Rattle.frame.proofs.writer.put_few.Goals as goal

pub returns-then-out : goal.returns-then-out
returns-then-out g c =
    let few = c.args.few in
    let out = c.args.out.now in
    let n : length few ≡ g.row.N = search rules in
    let k : g.row.N ≡ 0 + length few = omega (arith, n) in
    ap (λ s. s ++ drop g.row.N out) c.copy_from_slice.ensures.after ∙ ap (λ i. few ++ drop i out) k ∙ sym (sets-eq few out 0 (omega (arith, n, c.if-out.true)))
