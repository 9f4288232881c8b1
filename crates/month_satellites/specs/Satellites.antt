-- 01, "Satellites and weights": a main constituent's pair X, Y from its satellites, in units of 2^-20.
-- `longitudes` are the three that satellites go by, (p, N', p') in ticks: N' is the negative of the node already, and stands as it is.
use Rattle.std.specs.Prelude.{ℕ, ◌^◌, List, [], ◌∷◌, map, ℤ, pos, ◌+ℤ◌, ◌*ℤ◌}
use Rattle.angles.specs.Ticks.{centicycle}
use Rattle.angles.specs.Floor.{floor_div, mod_turn}
use Rattle.cosine.specs.Fixed.{fixed_cosine, fixed_sine}
use Rattle.table.specs.Table.{Mark, unmarked, diurnal, semidiurnal, Satellite}
use Rattle.month_arguments.specs.Longitudes.{times}
use Rattle.month_satellites.specs.Latitude.{Factors}

-- "A satellite's angle is its differences times (p, N', p') plus its phase."
unfoldable pub satellite_angle : List ℕ → Satellite → ℕ
satellite_angle longitudes s = mod_turn (times s.differences (map pos longitudes) +ℤ s.phase *ℤ pos centicycle)

-- "With its ratio in ten-thousandths, its terms are floor(ratio × fixed cosine / 10,240,000) and the same with sine;"
unfoldable pub plain_term : ℕ → ℤ → ℤ
plain_term ratio wave = floor_div (pos ratio *ℤ wave) 10_240_000

-- "a marked term becomes floor(term × G / 2^20)", with the G of its mark.
unfoldable pub times_factor : ℤ → ℤ → ℤ
times_factor term g = floor_div (term *ℤ g) (2 ^ 20)

unfoldable pub marked_term : Factors → Mark → ℤ → ℤ
marked_term g unmarked term = term
marked_term g diurnal term = times_factor term g.diurnal
marked_term g semidiurnal term = times_factor term g.semidiurnal

-- A satellite's cosine or sine term: `wave` is the fixed cosine or the fixed sine.
unfoldable pub satellite_term : (ℕ → ℤ) → Factors → List ℕ → Satellite → ℤ
satellite_term wave g longitudes s = marked_term g s.mark (plain_term s.ratio (wave (satellite_angle longitudes s)))

-- A number for each satellite, added up.
unfoldable pub sum_over : (Satellite → ℤ) → List Satellite → ℤ
sum_over term [] = pos 0
sum_over term (s ∷ ss) = term s +ℤ sum_over term ss

-- The nodal correction X, Y.
pub record Pair : Type 0 where
  pub x : ℤ
  pub y : ℤ

-- "X is 2^20 plus the cosine terms, Y the sum of the sine terms."
unfoldable pub main_pair : Factors → List ℕ → List Satellite → Pair
main_pair g longitudes satellites =
    record {
      x = pos (2 ^ 20) +ℤ sum_over (satellite_term fixed_cosine g longitudes) satellites;
      y = sum_over (satellite_term fixed_sine g longitudes) satellites;
    }
