-- 02, No. 4: an hourly card, and the rule of its two-digit year.
-- Assumes nothing.
use Rattle.std.specs.Prelude.{ℕ, ◌+◌, ◌%◌, cond, List, ltb, ℤ}

-- what stands in a field: a number, or a gap where a height is missing (No. 12)
pub data Entry : Type 0 where
  value : ℤ → Entry
  gap : Entry

-- "card number 1 or 2, station number 0 to 99999, day, month, last two digits of the year, twelve heights": the year is given in full here, and
-- a height in centimetres
pub record HourlyCard : Type 0 where
  pub number : ℕ
  pub station : ℕ
  pub day : ℕ
  pub month : ℕ
  pub year : ℕ
  pub heights : List Entry

-- "last two digits of the year"
abbrev pub two_digits : ℕ → ℕ
two_digits year = year % 100

-- "Two digits 50 to 99 stand for 1950 to 1999, and 00 to 49 for 2000 to 2049."
abbrev pub full_year : ℕ → ℕ
full_year digits = cond (ltb digits 50) (2000 + digits) (1900 + digits)
