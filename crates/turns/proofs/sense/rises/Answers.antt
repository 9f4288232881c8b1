-- `turns::sense::rises` meets its contract: the test is `rising` by the number's sign. Assumes nothing.
use mathlib.Core.Path.{◌≡◌, refl}
use lib.Dec.{leb-zero}
use lib.IntN.{ℤ, pos, negsuc}
use lib.Signed.{le_z}
use mir.ValLaws.{to_z-of_z}
use Rattle.turns.specs.Sense.{rising}
use Rattle.turns.proofs.sense.rises.Goals as goal

rising-is : (z : ℤ) → le_z (pos 0) z ≡ rising z
unfolding rising
rising-is (pos n) = leb-zero n
rising-is (negsuc n) = refl

pub returns : goal.returns
returns c =
    let f = c.ranges.slope in rw to_z-of_z (rising-is c.args.slope)
