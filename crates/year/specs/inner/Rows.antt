-- Only inner contracts cite this: a year's months as the code's rows hold them.
-- Assumes nothing.
use Prim.{Unit}
use Rattle.std.specs.Prelude.{ℕ, ◌+◌, ◌*◌, ◌<◌, min, ◌≡◌, List, ℤ, length, get_or, Result, OnOk}
use Rattle.limits.specs.Limits.{most_records}
use Rattle.refusals.specs.Outcome.{Outcome, accepted, outcome_of, ◌>>◌}
use Rattle.refusals.specs.declared.Refused.{Refused}
use Rattle.calendar.specs.Calendar.{month_minutes, year_minutes, months_a_year}
use Rattle.table.specs.declared.Table.{Table}
use Rattle.table.specs.inner.View.{table_of}
use Rattle.station.specs.declared.Station.{Station}
use Rattle.station.specs.inner.Station.{station_of}
use Rattle.month_prepared.specs.Prepared.{Month}
use Rattle.month_prepared.specs.declared.months.Months.{Months}
use Rattle.month_prepared.specs.inner.Rows.{InRange, Following, last_of, months_in}
use Rattle.year.specs.Year.{year_of}

-- the twelve months of a year, each with so many constituents
pub record IsYear (year count : ℕ) (months : Months) : Type 0 where
  pub constituents : months.count ≡ count
  pub twelve : months.many ≡ months_a_year
  pub lasts : (m : ℕ) → m < months_a_year → get_or months.lasts m 0 ≡ month_minutes year (m + 1)

-- these, and that their minutes are the year's
pub record YearMonths (year count : ℕ) (months : Months) : Type 0 where
  pub is : IsYear year count months
  pub following : Following months
  pub last : last_of months ≡ year_minutes year

-- what preparing says: the months, or the refusal
abbrev pub year_with : Result Unit Refused → List Month → Outcome (List Month)
year_with r months = outcome_of r >> accepted months

-- a row for each month of a year
pub record TwelveRows (vs : List ℕ) (ps qs : List ℤ) : Type 0 where
  pub arguments : length vs ≡ months_a_year * most_records
  pub cosines : length ps ≡ months_a_year * most_records
  pub sines : length qs ≡ months_a_year * most_records

-- month m's row, whole, and the rows that it is put into
pub record RowInto {A : Type 0} (row : List A) (m : ℕ) (rows : List A) : Type 0 where
  pub there : m < months_a_year
  pub whole : length row ≡ most_records
  pub long : length rows ≡ months_a_year * most_records

-- how many constituents a station has
abbrev pub held_by : Station → ℕ
held_by station = min station.count most_records

-- the rows of a year's months, with the station's lags and the frequencies
pub record PreparedPost (table : Table) (station : Station) (year : ℕ) (fs vs : List ℕ) (ps qs : List ℤ) (r : Result Unit Refused) : Type 0 where
  pub rows : TwelveRows vs ps qs
  pub prepares : (months : Months) → IsYear year (held_by station) months
      → year_with r (months_in vs station.lags fs ps qs months) ≡ year_of (table_of table) (station_of station) year
  pub within : InRange table.frequencies table.speeds → OnOk r (InRange (held_by station) fs)
