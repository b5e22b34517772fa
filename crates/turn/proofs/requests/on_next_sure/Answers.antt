-- `turn::requests::on_next_sure` meets its contract. Closed by laws of RequestLaws and TurnLaws.
use Rattle.turn_laws.proofs.RequestLaws.{ask_4, ask_5, asked_next_sure}
use Rattle.turn.proofs.MoveLaws.{some_found, none_found}
use Rattle.turn.proofs.TurnLaws.{as_turn, refused_in_place}
use mathlib.Core.Path.{refl, ap, sym, ◌∙◌}
use Rattle.turn_laws.specs.Moves.{advanced}
use Rattle.book.specs.declared.Unit.{Unit as Value}
use native.Mathlib.Omega.{arith}
use Rattle.turn.proofs.requests.on_next_sure.Goals as goal

pub returns-then-is_some : goal.returns-then-is_some
returns-then-is_some g c = refused_in_place _ (ask_4 c.requires.ready c.args.r.now.reads c.args.r.now.terms c.requires.in_state c.requires.same c.requires.confirmation _ refl c.identifier-id.ensures c.find.ensures (some_found (sym c.is_some.ensures ∙ c.if-is_some.true)).1) refl

pub returns-then-count-ge8 : goal.returns-then-count-ge8
returns-then-count-ge8 g c = refused_in_place _ (ask_5 c.requires.ready c.args.r.now.reads c.args.r.now.terms c.requires.in_state c.requires.same c.requires.confirmation _ refl c.identifier-id.ensures c.find.ensures (none_found (sym c.is_some.ensures ∙ c.if-is_some.false)) (omega (arith, c.if-count-ge8.true, c.count.ensures))) refl

pub returns : goal.returns
returns g c = asked_next_sure c.requires.ready c.args.r.now.reads c.args.r.now.terms c.requires.in_state c.requires.same c.requires.confirmation _ refl c.identifier-id.ensures c.find.ensures (none_found (sym c.is_some.ensures ∙ c.if-is_some.false)) (omega (arith, c.if-count-ge8.false, c.count.ensures)) c.put_message-done.ensures.laid c.at_elapsed.ensures c.append.ensures (as_turn c.finished.ensures)

pub append-requires : goal.append-requires
unfolding advanced
append-requires g c = omega (arith, ap (λ (v : Value). v.count) c.at_elapsed.ensures, c.if-count-ge8.false, c.count.ensures)
