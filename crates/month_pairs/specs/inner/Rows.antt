-- Only inner contracts cite this: the pairs of the mains' sums, and of rows of the code's table.
use Rattle.std.specs.Prelude.{ℕ, ◌+◌, ◌*◌, List, ℤ, pos, get_or}
use Rattle.limits.specs.Limits.{most_mains}
use Rattle.table.specs.Table.{Satellite}
use Rattle.table.specs.inner.View.{listed, naturals, satellite_of}
use Rattle.month_satellites.specs.Latitude.{Factors}
use Rattle.month_satellites.specs.Satellites.{Pair, main_pair}
use Rattle.month_pairs.specs.Pairs.{Corrected, checked}

-- the sums X, Y of main k, of mains that are kept each in a row of its V, X and Y
abbrev pub sum_at : List ℤ → ℕ → Pair
sum_at kept k = record { x = get_or kept (3 * k + 1) (pos 0); y = get_or kept (3 * k + 2) (pos 0) }

-- the pairs of 64 mains, by refusal 11
abbrev pub pairs_of : List ℤ → List Corrected
pairs_of kept = listed (λ k. checked (sum_at kept k)) 0 most_mains

-- the satellites of the main in row k: a row of its place, its first satellite and their count
unfoldable pub row_satellites : List ℕ → List ℤ → List ℕ → ℕ → List Satellite
row_satellites cards angles ratios k = listed (satellite_of angles ratios) (get_or (naturals 3 cards k) 1 0) (get_or (naturals 3 cards k) 2 0)

-- the sums of the main in row k, and its pair by refusal 11
abbrev pub row_sum : Factors → List ℕ → List ℕ → List ℤ → List ℕ → ℕ → Pair
row_sum g longitudes cards angles ratios k = main_pair g longitudes (row_satellites cards angles ratios k)

unfoldable pub row_corrected : Factors → List ℕ → List ℕ → List ℤ → List ℕ → ℕ → Corrected
row_corrected g longitudes cards angles ratios k = checked (row_sum g longitudes cards angles ratios k)
