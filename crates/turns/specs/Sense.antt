-- 01, "Heights and turns": the sense of a slope.
-- Assumes nothing.
use Rattle.std.specs.Prelude.{Bool, true, false, not, cond, ℤ, pos, negsuc}

-- "Slope 0 counts as rising."
unfoldable pub rising : ℤ → Bool
rising (pos n) = true
rising (negsuc n) = false

-- "the two ends' slopes differ in sense"
unfoldable pub differ : ℤ → ℤ → Bool
differ a b = cond (rising a) (not (rising b)) (rising b)
