-- `session::walk::print_verdict` meets its contract. Closed by WalkLaws, one law for each way out.
use Rattle.session.proofs.WalkLaws.{verdict_room, verdict_laid, verdict_refused}
use Rattle.session.proofs.walk.print_verdict.Goals as goal

pub print_laid-requires : goal.print_laid-requires
print_laid-requires c = verdict_room _ _ _ c.in-Ok.is c.requires.few _ _ c.requires.within c.requires.room

pub returns-in-Ok : goal.returns-in-Ok
returns-in-Ok c = verdict_laid _ _ _ c.in-Ok.is c.requires.few c.print_laid.ensures

pub returns-in-Err : goal.returns-in-Err
returns-in-Err c = verdict_refused _ _ c.in-Err.is c.print_refusal.ensures.0 c.print_refusal.ensures.1
