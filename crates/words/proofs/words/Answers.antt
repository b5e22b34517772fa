-- `words::words` meets its contract. Closed by the way that is taken.
use mathlib.Core.Path.{ap}
use native.Mathlib.Omega.{arith}
use Rattle.text.specs.Reading.{held_in}
use Rattle.phrases.proofs.PageLaws.{then, within, writes_as}
use Rattle.words.specs.Lines.{frame_line}
use Rattle.words.proofs.LineLaws.{words_none, words_framed}
use Rattle.words.proofs.words.Goals as goal

pub returns-in-Some : goal.returns-in-Some
unfolding frame_line
returns-in-Some c = writes_as (words_framed c.if-framed.true (ap held_in c.in-Some.is)) (within (then c.say.ensures c.frame_words.ensures) (omega arith))

pub returns-in-None : goal.returns-in-None
returns-in-None c = writes_as (words_none c.args.framed (ap held_in c.in-None.is)) (within c.say-in-None.ensures (omega arith))
