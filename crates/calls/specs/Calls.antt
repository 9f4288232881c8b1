-- 01: what each call returns and leaves, from the clock's state and what is lent to it.
-- Assumes nothing.
use Prim.{Unit}
use Rattle.std.specs.Prelude.{ℕ, Bool, List, length, ℤ}
use Rattle.refusals.specs.Outcome.{Outcome, accepted, answered, on_accepted, ◌>>=◌}
use Rattle.table.specs.Table.{Table}
use Rattle.card_file.specs.Cards.{cards_outcome}
use Rattle.station.specs.Station.{Station, station_outcome}
use Rattle.calendar.specs.Calendar.{month_minutes}
use Rattle.month.specs.Month.{month_of}
use Rattle.heights.specs.Height.{height_at}
use Rattle.heights.specs.Series.{series_of}
use Rattle.turns.specs.Slope.{slope_at}
use Rattle.turns.specs.Search.{turns_of}
use Rattle.turns.specs.Written.{TurnsGiven, unless_refused, given}
use Rattle.turns.specs.Strides.{station_stride}
use Rattle.calls.specs.State.{Maybe, none, some, Dated, State}
use Rattle.calls.specs.Asked.{table_asked, date_asked, minutes_asked, minute_outside, series_outside, turns_outside}

-- ---- a card file

unfoldable pub cards_returns : List ℕ → Outcome Unit
cards_returns file = answered (cards_outcome file)

-- "An accepted card file leaves its table, with no station and no month"
unfoldable pub cards_leaves : State → List ℕ → State
cards_leaves k file =
    on_accepted (cards_outcome file)
    (λ table. record { table = some table; station = none; month = none }) k

-- ---- a station: "A station asks 21"

unfoldable pub station_returns : State → Station → Outcome Unit
station_returns k station = do
  table ← table_asked k.table
  station_outcome (length table.frequencies) station

-- "an accepted station keeps the table and leaves itself, with no month"; 02, No. 6: "replacing a station replaces them with the rest", its
-- stride lengths
unfoldable pub station_leaves : State → Station → State
station_leaves k station =
    on_accepted (station_returns k station)
    (λ _. record { table = k.table; station = some station; month = none }) k

-- ---- a date: "a month [asks] 21 and 22", then 8, then 11

-- its month, prepared for it
unfoldable pub date_gives : Maybe Table → Maybe Station → ℕ → ℕ → Outcome Dated
date_gives table station year month = do
  (t, s) ← date_asked table station year month
  constituents ← month_of t s year month
  accepted (record { year = year; month = month; prepared = record { last = month_minutes year month; constituents = constituents } })

unfoldable pub date_returns : State → ℕ → ℕ → Outcome Unit
date_returns k year month = answered (date_gives k.table k.station year month)

-- "an accepted date keeps both and leaves its month prepared, in place of any before"
unfoldable pub date_leaves : State → ℕ → ℕ → State
date_leaves k year month =
    on_accepted (date_gives k.table k.station year month)
    (λ dated. record { table = k.table; station = k.station; month = some dated }) k

-- ---- what heights, series and turns ask first, of minutes that a test finds outside a month

abbrev pub ready : (Dated → Bool) → State → Outcome (Table × Station × Dated)
ready outside k = minutes_asked outside k.table k.station k.month

-- ---- a height

unfoldable pub height_returns : State → ℕ → Outcome ℤ
height_returns k minute = do
  (table, station, month) ← ready (λ month. minute_outside month.prepared.last minute) k
  accepted (height_at month.prepared.constituents minute)

-- ---- a series

-- so many heights
unfoldable pub series_heights : State → ℕ → ℕ → ℕ → Outcome (List ℤ)
series_heights k start step places = do
  (table, station, month) ← ready (λ month. series_outside month.prepared.last start step places) k
  accepted (series_of (height_at month.prepared.constituents) start step places)

-- what a series returns, and the lent places as it leaves them
pub record SeriesGiven : Type 0 where
  pub returned : Outcome Unit
  pub heights : List ℤ

-- the lent places with new heights; refused, they are as they were
abbrev pub filled : Outcome (List ℤ) → List ℤ → SeriesGiven
filled new heights = record { returned = answered new; heights = on_accepted new (λ hs. hs) heights }

-- "one height for each lent place"
unfoldable pub series_gives : State → ℕ → ℕ → List ℤ → SeriesGiven
series_gives k start step heights = filled (series_heights k start step (length heights)) heights

-- ---- turns

-- by strides that a rule gives a table and a station
abbrev pub turns_by : (Table → Station → ℕ) → State → ℕ → ℕ → List ℕ → List ℤ → TurnsGiven
turns_by stride k first last minutes heights =
    unless_refused (ready (λ month. turns_outside month.prepared.last first last) k) minutes heights λ (table, station, month).
    given (height_at month.prepared.constituents)
    (turns_of (slope_at month.prepared.constituents) (stride table station) first last) minutes heights

-- 02, No. 6: "The search works from the station's own lengths from now on"
unfoldable pub turns_gives : State → ℕ → ℕ → List ℕ → List ℤ → TurnsGiven
turns_gives = turns_by station_stride
