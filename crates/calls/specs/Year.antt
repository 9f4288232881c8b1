-- 02, No. 1, "The yard's whole year on one sheet": what the call asks, returns and leaves, from the clock's state and what is lent to it.
-- Assumes nothing.
use Rattle.std.specs.Prelude.{ℕ, Bool, not, ◌||◌, List, ℤ, length}
use Rattle.refusals.specs.Outcome.{Outcome, accepted, refused, refuse_if, on_accepted, ◌>>=◌}
use Rattle.calendar.specs.Calendar.{year_in_range, year_minutes}
use Rattle.table.specs.Table.{Table}
use Rattle.station.specs.Station.{Station}
use Rattle.month_prepared.specs.Prepared.{Month}
use Rattle.year.specs.Year.{year_of}
use Rattle.heights.specs.Height.{height_over}
use Rattle.heights.specs.Series.{series_of}
use Rattle.turns.specs.Slope.{slope_over}
use Rattle.turns.specs.Search.{turns_of}
use Rattle.turns.specs.Strides.{station_stride}
use Rattle.turns.specs.Written.{TurnsFound, TurnsGiven, given}
use Rattle.calls.specs.State.{Maybe, State}
use Rattle.calls.specs.Asked.{station_asked, series_outside, turns_outside}
use Rattle.calls.specs.declared.annual.Sheet.{Sheet}

-- ---- "01's 8, 11, 9 and 10 apply in that order with the year in place of the month."

-- "Only 21 and 22 are asked of the state"; then 8, the year out of range
abbrev pub year_asked : {T S : Type 0} → Maybe T → Maybe S → ℕ → Outcome (T × S)
year_asked table station year = do
  both ← station_asked table station
  refuse_if (not (year_in_range year)) 8 0 (accepted both)

-- 9: a series of so many places, or the search, outside the year, reversed, or the step out of range
abbrev pub sheet_outside : Sheet → ℕ → Bool
sheet_outside sheet places =
    series_outside (year_minutes sheet.year) sheet.start sheet.step places
    || turns_outside (year_minutes sheet.year) sheet.first sheet.last

-- the table, the station and the year's months, after 8, 11 ("that of the first month that has one") and 9
unfoldable pub sheet_asked : State → Sheet → ℕ → Outcome (Table × Station × List Month)
sheet_asked k sheet places = do
  (table, station) ← year_asked k.table k.station sheet.year
  months ← year_of table station sheet.year
  refuse_if (sheet_outside sheet places) 9 0 (accepted (table, station, months))

-- ---- "heights and turning waters for a calendar year from one call"

-- what a year's sheet returns, as a search for turns does, and the three lent buffers as it leaves them
pub record YearGiven : Type 0 where
  pub returned : Outcome TurnsFound
  pub series : List ℤ
  pub minutes : List ℕ
  pub heights : List ℤ

-- where what is asked is refused, the three buffers are as they were
abbrev pub unless_turned_down : {A : Type 0} → Outcome A → List ℤ → List ℕ → List ℤ → (A → YearGiven) → YearGiven
unless_turned_down (accepted a) series minutes heights next = next a
unless_turned_down (refused number place) series minutes heights next =
    record { returned = refused number place; series = series; minutes = minutes; heights = heights }

-- a series beside what a search gives: where that is refused, by 10, the series' places are as they were too
abbrev pub beside : TurnsGiven → List ℤ → List ℤ → YearGiven
beside turns new old =
    record {
      returned = turns.returned;
      series = on_accepted turns.returned (λ _. new) old;
      minutes = turns.minutes;
      heights = turns.heights;
    }

-- "The turn search runs on across month ends with the slope of the month that owns each minute"; 10 and what is written are a search's
abbrev pub sheet_over : List Month → ℕ → Sheet → List ℤ → List ℕ → List ℤ → YearGiven
sheet_over months stride sheet series minutes heights =
    beside
    (given (height_over months) (turns_of (slope_over months) stride sheet.first sheet.last) minutes heights)
    (series_of (height_over months) sheet.start sheet.step (length series))
    series

-- the sheet of the year's months, by strides that a rule gives a table and a station
abbrev pub sheet_by : (Table → Station → ℕ) → State → Sheet → List ℤ → List ℕ → List ℤ → YearGiven
sheet_by stride k sheet series minutes heights =
    unless_turned_down (sheet_asked k sheet (length series)) series minutes heights λ (table, station, months).
    sheet_over months (stride table station) sheet series minutes heights

-- with the stride of the station's own tides
unfoldable pub year_gives : State → Sheet → List ℤ → List ℕ → List ℤ → YearGiven
year_gives = sheet_by station_stride
