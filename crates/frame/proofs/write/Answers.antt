-- `frame::write` meets its contract. Closed by WriterLaws' `fits_room`.
use Rattle.frame.proofs.WriterLaws.{fits_room}
use Rattle.frame.proofs.write.Goals as goal

pub put_all-requires : goal.put_all-requires
put_all-requires c = fits_room _ _ _ c.tested.ensures c.in_ok-tested.was
