-- `turn::requests::on_request` meets its contract. Closed by laws of RequestLaws and TurnLaws.
use Rattle.turn_laws.proofs.RequestLaws.{ask_faulty, ask_extended, ask_other, ask_vetted, shot_multi, shot_single}
use Rattle.turn.proofs.MoveLaws.{bit_weight, bit_small}
use Rattle.turn.proofs.TurnLaws.{refused_in_place}
use mathlib.Core.Path.{refl, sym, ◌∙◌}
use native.Mathlib.Omega.{arith}
use Rattle.turn.proofs.requests.on_request.Goals as goal

pub returns-in_default : goal.returns-in_default
returns-in_default g c = refused_in_place _ (ask_faulty (g.H.Seen.unit c.args.u.now) c.args.confirmed c.args.terms c.args.frame.now (sym c.in_default.ensures) refl) refl

pub returns-then-message-ne0 : goal.returns-then-message-ne0
returns-then-message-ne0 g c = refused_in_place _ (ask_extended (g.H.Seen.unit c.args.u.now) c.args.confirmed c.args.terms c.args.frame.now (sym c.in-Ok.ensures.1) refl c.if-message-ne0.true) refl

pub returns-then-message-from : goal.returns-then-message-from
returns-then-message-from g c = refused_in_place _ (ask_other (g.H.Seen.unit c.args.u.now) c.args.confirmed c.args.terms c.args.frame.now (sym c.in-Ok.ensures.1) refl c.if-message-ne0.false (c.from.ensures ∙ bit_weight c.args.confirmed) c.if-message-from.true) refl

pub returns-then-message : goal.returns-then-message
returns-then-message g c = ask_vetted (g.H.Seen.unit c.args.u.now) c.args.confirmed c.args.terms c.args.frame.now (sym c.in-Ok.ensures.1) refl c.if-message-ne0.false (c.from.ensures ∙ bit_weight c.args.confirmed) c.if-message-from.false (omega (arith, c.from.ensures, bit_small c.args.confirmed)) (shot_multi c.requires.ready _ _ _ c.if-message.true (rw c.in-Ok.ensures.0 at c.on_multi.ensures))

pub returns : goal.returns
returns g c = ask_vetted (g.H.Seen.unit c.args.u.now) c.args.confirmed c.args.terms c.args.frame.now (sym c.in-Ok.ensures.1) refl c.if-message-ne0.false (c.from.ensures ∙ bit_weight c.args.confirmed) c.if-message-from.false (omega (arith, c.from.ensures, bit_small c.args.confirmed)) (shot_single c.requires.ready _ _ _ c.if-message.false (rw c.in-Ok.ensures.0 at c.on_single.ensures))
