-- `turn::lines::put_answers` meets its contract. Closed by laws of PenLaws.
use mathlib.Core.List.{[], ◌∷◌, ◌++◌, map}
use Rattle.said.proofs.PenLaws.{laid_as, and_then, answers_more}
use mathlib.Core.Path.{ap, ◌∙◌}
use lib.ListN.{take}
use Rattle.said.specs.Notes.{answer_line}
use native.Mathlib.Omega.{arith}
use Rattle.turn.proofs.TurnLaws.{name_short}
use Rattle.turn.proofs.lines.put_answers.Goals as goal

pub loop-i-preserved : goal.loop-i-preserved
loop-i-preserved g c =
    let l = c.loop-i in
    let p = c.put_answer-next in (
      omega (arith, p.ensures.place, l.invariant.0, name_short c.requires.ready c.name-name.ensures),
      omega (arith, p.ensures.laid.count, l.invariant.1),
      laid_as (ap (λ x. map (answer_line c.args.say c.name-name.result.now) (take l.i (g.H.Seen.unit c.args.u.now).waiting) ++ (answer_line c.args.say c.name-name.result.now x ∷ [])) c.id.ensures ∙ answers_more _ (g.H.Seen.unit c.args.u.now).waiting l.i (omega (arith, c.requires.ready.eight))) (and_then l.invariant.2 p.ensures.laid),
    )
