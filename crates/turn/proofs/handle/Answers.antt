-- `turn::handle` meets its contract. Closed by laws of StepLaws and RoomLaws, one for each way out.
use Rattle.turn_laws.proofs.StepLaws.{step_small, step_unsound, step_does}
use Rattle.turn_laws.proofs.Gave.{turned_as}
use Rattle.room_laws.proofs.Room.{step_fits}
use Rattle.turn.proofs.RoomLaws.{in_front, fits_short, refused_short}
use Rattle.turn.proofs.TurnLaws.{refused_in_place}
use mathlib.Core.Path.{refl}
use native.Mathlib.Omega.{arith}
use Rattle.turn.proofs.handle.Goals as goal

pub returns-in_default : goal.returns-in_default
returns-in_default g c = refused_in_place _ (step_small _ (g.H.Seen.unit c.args.u.now) c.args.event.now c.in_default.ensures.cases) refl

pub returns-then-not-is_sound : goal.returns-then-not-is_sound
returns-then-not-is_sound g c =
    let k = c.in-Some.ensures.cases in
    let e = step_unsound _ (g.H.Seen.unit c.args.u.now) c.args.event.now k.enough c.is_sound.ensures.value c.if-not-is_sound.true in
    in_front c.args.out.now k.enough k.same (refused_short e) (refused_in_place _ e refl)

pub returns : goal.returns
returns g c =
    let k = c.in-Some.ensures.cases in
    let e = step_does _ (g.H.Seen.unit c.args.u.now) c.args.event.now k.enough c.is_sound.ensures.value c.if-not-is_sound.false refl in
    let f = step_fits _ (g.H.Seen.unit c.args.u.now) c.args.event.now c.if-not-is_sound.ensures.ready (λ i. omega (arith, c.type_inv.event i)) in
    in_front c.args.out.now k.enough k.same (fits_short f) (turned_as e c.act.ensures)
