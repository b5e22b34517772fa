-- `turn::starts::on_greeted` meets its contract. Closed by laws of Gave and StartLaws.
use Rattle.turn_laws.proofs.StartLaws.{greeted_note, greeted_multi}
use Rattle.turn_laws.proofs.Gave.{turned_as}
use native.Mathlib.Omega.{arith}
use Rattle.turn.proofs.starts.on_greeted.Goals as goal

pub returns-then-m-gt1 : goal.returns-then-m-gt1
returns-then-m-gt1 g c = turned_as (greeted_note _ c.args.a c.args.m.now.frame.now c.args.m.now.header _ c.if-m-gt1.true) c.cut_off.ensures

pub returns-then-m : goal.returns-then-m
returns-then-m g c = turned_as (greeted_multi _ c.args.a c.args.m.now.frame.now c.args.m.now.header _ (omega (arith, c.if-m-gt1.false)) c.if-m.true) c.cut_off-then-m.ensures
