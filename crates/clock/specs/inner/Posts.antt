-- Only inner contracts cite this: what the steps of the calls promise.
-- Assumes nothing.
use Prim.{Unit}
use Rattle.std.specs.Prelude.{ℕ, ◌≤◌, Bool, true, List, ◌≡◌, ℤ, Result}
use Rattle.limits.specs.Limits.{most_minutes, most_records}
use Rattle.refusals.specs.Outcome.{Outcome, outcome_of, answered, on_accepted}
use Rattle.refusals.specs.declared.Refused.{Refused}
use Rattle.cosine.specs.Fixed.{IsTable}
use Rattle.table.specs.inner.View.{table_of}
use Rattle.table.specs.declared.Table as declared
use Rattle.table.specs.Table.{Table}
use Rattle.station.specs.Station.{Station}
use Rattle.station.specs.Strides.{usual_strides}
use Rattle.station.specs.inner.Station.{station_of}
use Rattle.month_prepared.specs.inner.View.{constituents_from}
use Rattle.month_prepared.specs.inner.Rows.{last_of}
use Rattle.calendar.specs.Calendar.{month_minutes}
use Rattle.month.specs.Month.{month_of}
use Rattle.month_prepared.specs.Prepared.{Month}
use Rattle.heights.specs.Height.{height_at}
use Rattle.heights.specs.declared.Lent.{Lent}
use Rattle.heights.specs.declared.months.LentMonths.{LentMonths}
use Rattle.heights.specs.inner.Lent.{IsLent, constituents_lent}
use Rattle.heights.specs.inner.Places.{SeriesWithin}
use Rattle.turns.specs.Slope.{slope_at}
use Rattle.turns.specs.inner.Lists.{Rows, slopes_in, heights_in}
use Rattle.turns.specs.Written.{TurnsFound}
use Rattle.turns.specs.inner.Search.{Reaches}
use Rattle.station.specs.declared.Station as declared_station
use Rattle.calls.specs.declared.annual.Sheet.{Sheet}
use Rattle.calls.specs.Year.{sheet_over, year_gives}
use Rattle.calls.specs.Bookings.{bookings_gives}
use Rattle.calls.specs.State.{Maybe, some, Dated}
use Rattle.calls.specs.Calls.{height_returns}
use Rattle.calls.specs.inner.Flags.{state_of, tabled_only}
use Rattle.clock.specs.View.{view, Sound, constituents_in}
use Rattle.clock.specs.declared.Clock.{Clock}

-- a clock with a table or none, and nothing else
pub record BarePost (tabled : Bool) (table : declared.Table) (r : Clock) : Type 0 where
  pub cosines : IsTable r.cosines
  pub flag : r.tabled ≡ tabled
  pub same : r.table ≡ table
  pub count : r.count ≡ 0
  pub last : r.last ≡ 0
  pub strides : r.station.strides ≡ usual_strides
  pub there : view r ≡ tabled_only tabled (table_of table)

-- a month that is prepared for a date in range, whatever the flags of the clock say
pub record PreparedPost (c : Clock) (year month : ℕ) (answer : Result (Unit {0}) Refused) (left : Clock) : Type 0 where
  pub sound : Sound left
  pub returns : outcome_of answer ≡ answered (month_of (table_of c.table) (station_of c.station) year month)
  pub leaves : view left ≡ on_accepted (month_of (table_of c.table) (station_of c.station) year month) (λ constituents. record {
    table = (view c).table;
    station = (view c).station;
    month = some (record { year = year; month = month; prepared = record { last = month_minutes year month; constituents = constituents } });
  }) (view c)

-- what a height and bookings ask of the parts of a clock that has a table
abbrev pub PartsMade : Bool → List ℕ → ℕ → ℕ → Type 0
PartsMade tabled cosines count last = tabled ≡ true → IsTable cosines × ((count ≤ most_records) × (last ≤ most_minutes))

-- a height from the parts of a clock, whatever table, station and date it has
pub record HeightFrom (tabled stationed dated : Bool) (last count : ℕ) (arguments lags frequencies : List ℕ) (ps qs : List ℤ) (minute : ℕ) (returned : Outcome ℤ) : Type 0 where
  pub returns : (t : Table) (s : Station) (year month : ℕ) → returned ≡ height_returns (state_of tabled t stationed s dated (record { year = year; month = month; prepared = record { last = last; constituents = constituents_from arguments lags frequencies ps qs count } })) minute

-- bookings from the parts of a clock, whatever table, station and date it has
pub record BookingsFrom (tabled stationed dated : Bool) (last count : ℕ) (arguments lags frequencies : List ℕ) (ps qs : List ℤ) (minutes : List ℕ) (heights left : List ℤ) (returned : Outcome Unit) : Type 0 where
  pub gives : (t : Table) (s : Station) (year month : ℕ) → record { returned = returned; heights = left }
      ≡ bookings_gives (state_of tabled t stationed s dated (record { year = year; month = month; prepared = record { last = last; constituents = constituents_from arguments lags frequencies ps qs count } })) minutes heights

-- the constituents of a clock's month, as they are lent
pub record LentBy (c : Clock) (l : Lent) : Type 0 where
  pub lent : PartsMade c.tabled c.cosines c.count c.last → c.tabled ≡ true → IsLent l
  pub constituents : constituents_lent l ≡ constituents_in c

-- its month, as the single one of months that follow one another
pub record MonthBy (c : Clock) (l : LentMonths) : Type 0 where
  pub rows : Sound c → Rows l
  pub end : last_of l.months ≡ c.last
  pub heights : heights_in l ≡ height_at (constituents_in c)
  pub slopes : slopes_in l ≡ slope_at (constituents_in c)

-- a year's sheet, of a table and a station, for a year in range, whatever month the clock has
pub record SheetPost (table : declared.Table) (station : declared_station.Station) (sheet : Sheet) (series series_left : List ℤ) (minutes minutes_left : List ℕ) (heights heights_left : List ℤ) (returned : Outcome TurnsFound) : Type 0 where
  pub gives : (month : Maybe Dated) → record { returned = returned; series = series_left; minutes = minutes_left; heights = heights_left }
      ≡ year_gives (record { table = some (table_of table); station = some (station_of station); month = month }) sheet series minutes heights

-- a series and a search within months that end at a minute
pub record SheetWithin (end stride : ℕ) (sheet : Sheet) (places : ℕ) : Type 0 where
  pub series : SeriesWithin end sheet.start sheet.step places
  pub search : Reaches end (record { stride = stride; first = sheet.first; last = sheet.last })

-- the sheet of months that follow one another, by strides of so many minutes
pub record WrittenPost (months : List Month) (stride : ℕ) (sheet : Sheet) (series series_left : List ℤ) (minutes minutes_left : List ℕ) (heights heights_left : List ℤ) (returned : Outcome TurnsFound) : Type 0 where
  pub gives : record { returned = returned; series = series_left; minutes = minutes_left; heights = heights_left } ≡ sheet_over months stride sheet series minutes heights
