-- `turn::starts::on_begun` meets its contract. Closed by laws of StartLaws and TurnLaws.
use Rattle.turn_laws.proofs.StartLaws.{began}
use Rattle.turn.proofs.TurnLaws.{as_turn, entered_as}
use Rattle.turn.proofs.starts.on_begun.Goals as goal

pub returns : goal.returns
returns g c = began c.requires.ready c.requires.in_state c.put_kept-done.ensures (entered_as (g.H.Seen.unit c.args.u.now) c.terms-t.ensures c.enter.ensures) (as_turn c.finished.ensures)
