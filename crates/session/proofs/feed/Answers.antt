-- `session::feed` meets its contract. Closed by text's reader; the octets of the image are those of the unit that it stands for.
use mathlib.Core.Path.{ap, sym, ◌∙◌}
use Rattle.image.specs.Image.{image_of}
use Rattle.image.proofs.RoundTrip.{image_back}
use Rattle.session.specs.Feeding.{Standing}
use Rattle.session.proofs.feed.Goals as goal

pub returns : goal.returns
returns c =
    let f = c.feed-fed.ensures in
    record { fed = f; image = sym (image_back _ c.feed-fed.array_long c.known.ensures.small) ∙ ap (λ (x : Standing). image_of x.state.unit) f.reader }
