-- `image::seen::clear` meets its contract. Closed by what `fold` says, and `zeros` in its words (Zeros).
use Rattle.std.proofs.Common.{rules, ◌≡◌, ap, ◌∙◌, bit_or}
use Rattle.std.specs.List.{fold}
use lib.Dec.{eqb}
use Rattle.image.proofs.Zeros.{zeros_fold}
use Rattle.image.proofs.seen.clear.Goals as goal

pub returns : goal.returns
returns c =
    let h : c.fold.result ≡ fold bit_or 0 c.args.octets.now = search rules in
    ap (λ x. eqb x 0) h ∙ zeros_fold c.args.octets.now
