-- `text::hearing::feed` meets its contract. The invariant: the lines that are left, taken now, give the whole (HearingLaws: `Going`).
use Prim.Native.Nat.{◌-◌}
use Rattle.text.specs.Hearing.{standing}
use Rattle.text.proofs.HearingLaws.{Going}
use Rattle.text.proofs.hearing.feed.Given as goal

abbrev pub invariant-loop : goal.invariant-loop
invariant-loop g l =
    Going g.H.Hearer.state g.H.Hearer.LONGEST g.H.Hearer.MOST g.H.Hearer.answer (standing g.H.Hearer.state l.initial.fed.state l.initial.unit) l.input l.initial.out
    l.fed l.unit l.out (l.end - l.counter)
