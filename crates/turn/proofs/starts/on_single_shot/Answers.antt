-- `turn::starts::on_single_shot` meets its contract. Closed by laws of StartLaws and TurnLaws.
use Rattle.turn_laws.proofs.StartLaws.{shot_plain, shot_sure}
use Rattle.turn.proofs.TurnLaws.{as_turn, name_as}
use mathlib.Core.List.{[], ◌∷◌}
use Rattle.turn.proofs.starts.on_single_shot.Goals as goal

pub returns-then-m-eq0 : goal.returns-then-m-eq0
returns-then-m-eq0 g c = shot_plain c.requires.ready c.args.a c.args.m.now.reads c.requires.in_state c.requires.single c.if-m-eq0.true c.put_seen-pen.ensures.laid c.put_message-given.ensures.laid c.put_line-done.ensures.laid (as_turn c.finished.ensures)

pub returns : goal.returns
returns g c = shot_sure c.requires.ready c.args.a c.args.m.now.reads c.requires.in_state c.requires.single c.requires.confirmation c.if-m-eq0.false c.put_seen-pen.ensures.laid c.put_message-given-2.ensures.laid c.ack_of-note.ensures (name_as (g.H.Seen.unit c.args.u.now) (49 ∷ 1 ∷ []) _ c.name.ensures c.put_noted-done.ensures.laid) (as_turn c.finished-2.ensures)
