-- `turn::starts::cut_off` meets its contract. Closed by laws of StartLaws and TurnLaws.
use Rattle.turn_laws.proofs.StartLaws.{cut_made}
use Rattle.turn.proofs.TurnLaws.{as_turn}
use Rattle.turn.proofs.starts.cut_off.Goals as goal

pub returns : goal.returns
returns g c = cut_made c.requires.ready _ c.requires.in_state c.put_seen-pen.ensures.laid c.put_line-done.ensures.laid (as_turn c.finished.ensures)
