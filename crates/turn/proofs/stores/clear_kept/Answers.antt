-- `turn::stores::clear_kept` meets its contract. Closed by laws of StoreLaws and PlaceLaws.
use lib.ListN.{length-replicate, replicate}
use Prim.Native.Nat.{ℕ}
use Rattle.image.proofs.StoreLaws.{kept_stored}
use Rattle.turn.proofs.PlaceLaws.{part_filled}
use borrow.Author.Rules.{rules}
use native.Mathlib.Omega.{arith}
use Rattle.turn.proofs.stores.clear_kept.Goals as goal

pub returns : goal.returns
returns c = let a = c.args in kept_stored a.image.now (search rules) (replicate a.n 0) (omega (arith, length-replicate {A = ℕ} a.n 0)) (part_filled a.image.now 48 _ a.n (c.fill.ensures.after (search rules)) (omega arith) (omega arith))
