-- 01, Arguments and Satellites and weights: a station's constituents in a prepared month, or refusal 11. All of it follows from the table,
-- the latitude, the records and the date.
use Rattle.std.specs.Prelude.{ℕ, ◌+◌, List, [], ◌∷◌, map, ℤ, pos, ◌*ℤ◌, get_or}
use Rattle.angles.specs.Floor.{floor_div}
use Rattle.calendar.specs.Calendar.{day_count}
use Rattle.refusals.specs.Outcome.{Outcome, accepted, ◌>>=◌}
use Rattle.refusals.specs.Checked.{at_place}
use Rattle.table.specs.Table.{Main, Shallow, Table}
use Rattle.month_prepared.specs.Prepared.{Constituent}
use Rattle.station.specs.Station.{Station}
use Rattle.station.specs.declared.records.Record.{Record}
use Rattle.table.specs.Definitions.{definition_at}
use Rattle.month_arguments.specs.Longitudes.{Longitudes, longitudes_on}
use Rattle.month_satellites.specs.Latitude.{Factors, factors_at}
use Rattle.month_satellites.specs.Satellites.{Pair}
use Rattle.month_workings.specs.Worked.{argument_of, correction_of}

-- "The month's instant is 00:00 on the 16th; d is its day count from 1 January 1976."
unfoldable pub month_day : ℕ → ℕ → ℤ
month_day year month = day_count year month 16

-- ---- a record's constituent

-- "Weights: P = floor(amplitude × X/256), Q = floor(amplitude × Y/256)."
unfoldable pub weight : ℕ → ℤ → ℤ
weight amplitude x = floor_div (pos amplitude *ℤ x) 256

-- with the frequency of its place, from the frequencies in their order
unfoldable pub constituent : List ℕ → Record → ℕ → Pair → Constituent
constituent frequencies r v xy =
    record {
      argument = v;
      lag = r.phase;
      frequency = get_or frequencies r.place 0;
      p = weight r.amplitude xy.x;
      q = weight r.amplitude xy.y;
    }

-- ---- the month

-- the constituents of the records from number k, from 1, on. 11: "asked record by record", its place the "station record (also for 11)"
unfoldable pub records_prepared : List ℕ → List Main → List Shallow → Factors → Longitudes → ℕ → List Record → Outcome (List Constituent)
records_prepared frequencies mains shallows g l k [] = accepted []
records_prepared frequencies mains shallows g l k (r ∷ rs) = do
  xy ← at_place k (correction_of g l mains (definition_at mains shallows r.place))
  rest ← records_prepared frequencies mains shallows g l (k + 1) rs
  accepted (constituent frequencies r (argument_of l mains (definition_at mains shallows r.place)) xy ∷ rest)

-- the frequencies of the table, by place
abbrev pub frequencies_in : Table → List ℕ
frequencies_in t = map (λ f. f.frequency) t.frequencies

-- "Its V, X, Y, P, Q [..] follow [..] from those cards, that latitude and those records, as lent when accepted, and that date":
-- the month of a station, from its table and the date
unfoldable pub month_of : Table → Station → ℕ → ℕ → Outcome (List Constituent)
month_of t s year month =
    records_prepared (frequencies_in t) t.mains t.shallows (factors_at s.latitude)
    (longitudes_on (month_day year month) t.longitudes t.increases) 1 s.records
