-- `turn::ends::put_uncertain` meets its contract. Closed by laws of TurnLaws.
use Rattle.turn.proofs.TurnLaws.{doubts_in}
use Rattle.turn.proofs.ends.put_uncertain.Goals as goal

pub returns-clause-laid : goal.returns-clause-laid
returns-clause-laid g c = doubts_in c.requires.ready c.state-s.ensures c.count-n.ensures c.put_answers.ensures.laid
