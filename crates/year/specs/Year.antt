-- 02, No. 1: the months of a calendar year. "Each month uses its own weights": each is prepared as a date prepares it, or refused by 11.
-- Assumes nothing.
use Rattle.std.specs.Prelude.{ℕ, zero, suc, ◌+◌, List, [], ◌∷◌}
use Rattle.refusals.specs.Outcome.{Outcome, accepted, ◌>>=◌}
use Rattle.calendar.specs.Calendar.{month_minutes, months_a_year}
use Rattle.table.specs.Table.{Table}
use Rattle.station.specs.Station.{Station}
use Rattle.month_prepared.specs.Prepared.{Month}
use Rattle.month.specs.Month.{month_of}

-- `left` months of a year, from one on. "An 11 is that of the first month that has one, and its place is still the station record."
unfoldable pub months_from : Table → Station → ℕ → ℕ → ℕ → Outcome (List Month)
months_from table station year month zero = accepted []
months_from table station year month (suc left) = do
  constituents ← month_of table station year month
  later ← months_from table station year (month + 1) left
  accepted (record { last = month_minutes year month; constituents = constituents } ∷ later)

-- January to December
abbrev pub year_of : Table → Station → ℕ → Outcome (List Month)
year_of table station year = months_from table station year 1 months_a_year
