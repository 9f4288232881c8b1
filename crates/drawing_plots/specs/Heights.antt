-- Heights as a drawing counts them: tenths of a millimetre above a mark that lies 100,000 metres below the station's zero.
-- Assumes nothing.
use Rattle.std.specs.Prelude.{ℕ, suc, ◌+◌, ◌-◌, min, max, List, [], ◌∷◌, ℤ, pos, negsuc}

-- the station's zero among raised heights, and the highest of them
abbrev pub zero_at : ℕ
zero_at = 1_000_000_000

abbrev pub highest_at : ℕ
highest_at = 2_000_000_000

-- A height raised to a natural number. Beyond 100,000 metres from zero it is drawn at that distance; a tide is never there.
abbrev pub raised : ℤ → ℕ
raised (pos n) = zero_at + min n zero_at
raised (negsuc n) = zero_at - suc n

-- the least of a number and the raised heights of a list, and the greatest
unfoldable pub least_of : ℕ → List ℤ → ℕ
least_of least [] = least
least_of least (h ∷ hs) = least_of (min least (raised h)) hs

unfoldable pub most_of : ℕ → List ℤ → ℕ
most_of most [] = most
most_of most (h ∷ hs) = most_of (max most (raised h)) hs
