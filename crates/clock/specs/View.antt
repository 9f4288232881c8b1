-- The state that the code's struct stands for, and what a clock call makes sure of for the next.
-- Assumes nothing.
use Rattle.std.specs.Prelude.{◌≤◌, true, false, List, ◌≡◌}
use Rattle.limits.specs.Limits.{most_minutes, most_records}
use Rattle.cosine.specs.Fixed.{IsTable}
use Rattle.table.specs.inner.View.{table_of}
use Rattle.station.specs.Strides.{strides_outside}
use Rattle.station.specs.inner.Station.{station_of}
use Rattle.month_prepared.specs.Prepared.{Constituent}
use Rattle.month_prepared.specs.inner.View.{constituents_from}
use Rattle.month_prepared.specs.inner.Rows.{InRange}
use Rattle.calls.specs.State.{Dated, State}
use Rattle.calls.specs.inner.Flags.{state_of}
use Rattle.clock.specs.declared.Clock.{Clock}

-- the prepared constituents
abbrev pub constituents_in : Clock → List Constituent
constituents_in c = constituents_from c.arguments c.lags c.frequencies c.ps c.qs c.count

-- the prepared month and its date
abbrev pub month_in : Clock → Dated
month_in c = record { year = c.year; month = c.month; prepared = record { last = c.last; constituents = constituents_in c } }

unfoldable pub view : Clock → State
view c = state_of c.tabled (table_of c.table) c.stationed (station_of c.station) c.dated (month_in c)

-- What a clock with a table keeps: its table of cosines is the table, and its numbers are in their ranges.
pub record Sound (c : Clock) : Type 0 where
  pub cosines : IsTable c.cosines
  pub table : InRange c.table.frequencies c.table.speeds
  pub count : c.count ≤ most_records
  pub last : c.last ≤ most_minutes
  pub month : InRange c.count c.frequencies
  pub strides : strides_outside c.station.strides ≡ false

-- A clock that a clock call made. Of one without a table nothing is asked: memory that is all zeros is such a clock.
abbrev pub Made : Clock → Type 0
Made c = c.tabled ≡ true → Sound c
