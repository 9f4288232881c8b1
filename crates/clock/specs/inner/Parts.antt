-- Only inner contracts cite this: what the steps of the calls make of the code's struct.
-- Assumes nothing.
use Rattle.std.specs.Prelude.{ℕ, min, true, false, Ok}
use Rattle.limits.specs.Limits.{most_records}
use Rattle.station.specs.declared.Station.{Station}
use Rattle.month_prepared.specs.declared.Month.{Month}
use Rattle.clock.specs.declared.Clock.{Clock}
use Rattle.clock.specs.declared.After.{After}

-- what an accepted call leaves
abbrev pub accepts : Clock → After
accepts c = record { answer = Ok tt; clock = c }

abbrev pub with_station : Clock → Station → Clock
with_station c s =
    record {
      cosines = c.cosines;
      tabled = c.tabled;
      table = c.table;
      stationed = true;
      station = s;
      dated = false;
      year = c.year;
      month = c.month;
      last = c.last;
      count = c.count;
      arguments = c.arguments;
      lags = c.lags;
      frequencies = c.frequencies;
      ps = c.ps;
      qs = c.qs;
    }

abbrev pub with_month : Clock → ℕ → ℕ → ℕ → Month → Clock
with_month c year month last prepared =
    record {
      cosines = c.cosines;
      tabled = c.tabled;
      table = c.table;
      stationed = c.stationed;
      station = c.station;
      dated = true;
      year = year;
      month = month;
      last = last;
      count = min prepared.count most_records;
      arguments = prepared.arguments;
      lags = prepared.lags;
      frequencies = prepared.frequencies;
      ps = prepared.ps;
      qs = prepared.qs;
    }
