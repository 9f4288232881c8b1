-- The calendar of document 01: months, years, the day count from 1 January 1976, and the dates that are in range.
-- Assumes nothing.
use Rattle.std.specs.Prelude.{Bool, ◌&&◌, cond, List, [], ◌∷◌, ℕ, zero, suc, ◌+◌, ◌-◌, ◌*◌, ◌%◌, eqb, leb, ℤ, pos, ◌-ℤ◌, get_or}

-- 01, Arguments: "Months have 31, 28, 31, 30, 31, 30, 31, 31, 30, 31, 30, 31 days"
abbrev pub month_lengths : List ℕ
month_lengths = 31 ∷ 28 ∷ 31 ∷ 30 ∷ 31 ∷ 30 ∷ 31 ∷ 31 ∷ 30 ∷ 31 ∷ 30 ∷ 31 ∷ []

-- a year has twelve
abbrev pub months_a_year : ℕ
months_a_year = 12

-- 01, Arguments: "every fourth year, 1976 being one"
unfoldable pub is_fourth : ℕ → Bool
is_fourth year = eqb (year % 4) (1976 % 4)

-- The days of a month, January being month 1: "with 29 in February of every fourth year". No days where there is no such month.
unfoldable pub month_days : ℕ → ℕ → ℕ
month_days year month = cond (eqb month 2 && is_fourth year) 29 (get_or (0 ∷ month_lengths) month 0)

-- 01, Heights and turns: "Minutes run from 0 to days × 1,440 inclusive". The month's last minute.
unfoldable pub month_minutes : ℕ → ℕ → ℕ
month_minutes year month = month_days year month * 1_440

-- The days of a year's first months, as many as are asked
unfoldable pub months_days : ℕ → ℕ → ℕ
months_days year zero = 0
months_days year (suc months) = months_days year months + month_days year (suc months)

-- 02, No. 1: "minutes counted from 1 January", to "the year's last instant". The year's last minute.
unfoldable pub year_minutes : ℕ → ℕ
year_minutes year = months_days year months_a_year * 1_440

-- The days of whole years from a year on, as many as are asked
unfoldable pub years_days : ℕ → ℕ → ℕ
years_days year zero = 0
years_days year (suc years) = years_days year years + months_days (year + years) 12

-- 01, Arguments: "day count from 1 January 1976", which is day 0. The days of the whole years since 1976, of the months before and
-- of the month so far, less the days of the whole years from the date's year up to 1976.
unfoldable pub day_count : ℕ → ℕ → ℕ → ℤ
day_count year month day =
    pos (years_days 1976 (year - 1976) + months_days year (month - 1) + day) -ℤ pos (years_days year (1976 - year) + 1)

-- A number is from the first of two to the second
unfoldable pub between : ℕ → ℕ → ℕ → Bool
between low high number = leb low number && leb number high

-- 01, the head: "years 1950 to 2049"
abbrev pub year_in_range : ℕ → Bool
year_in_range year = between 1950 2049 year

-- A date that is not in range is refused by 8, "year or month out of range".
unfoldable pub in_range : ℕ → ℕ → Bool
in_range year month = year_in_range year && between 1 12 month
