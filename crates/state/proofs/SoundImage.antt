-- A sound unit is read back from its image.
use Prim.Native.Nat.{ℕ, ◌<◌}
use mathlib.Core.Path.{◌≡◌}
use mathlib.Core.Bool.{true}
use native.Mathlib.Omega.{arith}
use lib.ListN.{length, get_or}
use Rattle.book.specs.Sound.{sound_of}
use Rattle.book.specs.declared.Unit.{Unit as Value}
use Rattle.image.specs.Image.{unit_of, image_of}
use Rattle.image.proofs.RoundTrip.{fitting_back}
use Rattle.state.proofs.Sounds.{ready}

-- THE UNIT THAT THE IMAGE OF A SOUND UNIT STANDS FOR IS THAT UNIT
pub unit_back : (u : Value) → sound_of u ≡ true → length u.name ≡ 32 → length u.waiting ≡ 8 → length u.kept ≡ 554
    → ((i : ℕ) → get_or u.kept i 0 < 256) → unit_of (image_of u) ≡ u
unit_back u s wide eight long small =
    let r = ready u s wide eight long small in
    fitting_back u wide eight long (omega (arith, r.named)) (omega (arith, r.few)) (omega (arith, r.held))
