-- Document 01's dates that are refused, computed. (Its starred dates are in crate claim.)
-- Assumes nothing.
use mathlib.Core.Path.{◌≡◌, refl}
use mathlib.Core.Bool.{false}
use Rattle.calendar.specs.Calendar.{between, in_range}

-- "month 0 and 13 are 8"
no-month-0 : in_range 1976 0 ≡ false
unfolding in_range between
no-month-0 = refl

no-month-13 : in_range 1976 13 ≡ false
unfolding in_range between
no-month-13 = refl
