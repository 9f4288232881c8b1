-- 01, "Satellites and weights": the latitude factors G, in units of 2^-20.
use Rattle.std.specs.Prelude.{ℕ, ◌*◌, ◌^◌, min, max, ℤ, pos, negsuc, neg_ℤ, nat_abs, ◌-ℤ◌, ◌*ℤ◌}
use Rattle.limits.specs.Limits.{most_latitude}
use Rattle.angles.specs.Ticks.{arc_minute}
use Rattle.angles.specs.Floor.{floor_div}
use Rattle.cosine.specs.Fixed.{fixed_sine}

-- "Latitudes under 5 degrees in size count as 5": the size in minutes, from 300 to 5,400. (No station's latitude is larger.)
unfoldable pub latitude_size : ℤ → ℕ
latitude_size latitude = min most_latitude (max 300 (nat_abs latitude))

-- "S20 = floor(fixed sine of the latitude's size / 2^10)."
unfoldable pub s20 : ℤ → ℤ
s20 latitude = floor_div (fixed_sine (latitude_size latitude * arc_minute)) (2 ^ 10)

-- "Diurnal G = floor(36,309 × (2^40 - 5 × S20²) / (100,000 × S20))" (S20 is over 0, and a divisor a natural number)
unfoldable pub diurnal_north : ℤ → ℤ
diurnal_north s = floor_div (pos 36_309 *ℤ (pos (2 ^ 40) -ℤ pos 5 *ℤ (s *ℤ s))) (100_000 * nat_abs s)

-- "semidiurnal G = floor(259,808 × S20 / 100,000)"
unfoldable pub semidiurnal_north : ℤ → ℤ
semidiurnal_north s = floor_div (pos 259_808 *ℤ s) 100_000

-- ".. count as 5 with their sign; 0 counts as north"; "south takes the negative"
unfoldable pub by_side : ℤ → ℤ → ℤ
by_side (pos north) g = g
by_side (negsuc south) g = neg_ℤ g

-- Both factors of a latitude.
pub record Factors : Type 0 where
  pub diurnal : ℤ
  pub semidiurnal : ℤ

unfoldable pub diurnal_factor : ℤ → ℤ
diurnal_factor latitude = by_side latitude (diurnal_north (s20 latitude))

unfoldable pub semidiurnal_factor : ℤ → ℤ
semidiurnal_factor latitude = by_side latitude (semidiurnal_north (s20 latitude))

abbrev pub factors_at : ℤ → Factors
factors_at latitude = record { diurnal = diurnal_factor latitude; semidiurnal = semidiurnal_factor latitude }
