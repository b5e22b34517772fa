-- `phrases::spelling::Page::say` meets its contract. Closed by PageLaws: what was copied into a loan of the word's length.
use mathlib.Core.Path.{refl}
use native.Mathlib.Omega.{arith}
use Rattle.phrases.proofs.PageLaws.{written, copied}
use Rattle.phrases.proofs.spelling.Page.say.Goals as goal

pub returns : goal.returns
returns c =
    let p = c.args.self.now in
    written (record { held = copied p.out.now c.args.word.now _ p.at _ c.requires (omega arith) c.copy_from_slice.ensures.after; place = refl })
