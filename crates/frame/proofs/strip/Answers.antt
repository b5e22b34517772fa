-- `frame::strip` meets its contract. Closed by StripLaws' `strip_all`, where it writes.
use native.Mathlib.Omega.{arith}
use Rattle.frame.proofs.StripLaws.{strip_all}
use Rattle.frame.proofs.strip.Goals as goal

pub returns : goal.returns
returns c =
    strip_all _ _ c.if-out-lt1024.false _ c.read.ensures _ c.in_ok-whole.was (λ j. omega (arith, c.type_inv.frame j)) _ c.put_bare.ensures
