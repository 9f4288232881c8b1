-- 01, "Heights and turns": what a clock has. A table, a station and a month, each there or not.
-- Assumes nothing.
use Rattle.std.specs.Prelude.{ℕ}
use Rattle.table.specs.Table.{Table}
use Rattle.station.specs.Station.{Station}
use Rattle.month_prepared.specs.Prepared.{Month}

-- what is there, or is not
pub data Maybe (A : Type 0) : Type 0 where
  none : Maybe A
  some : A → Maybe A

-- "an accepted date keeps both and leaves its month prepared": that month, and the date that it is prepared for
pub record Dated : Type 0 where
  pub year : ℕ
  pub month : ℕ
  pub prepared : Month

pub record State : Type 0 where
  pub table : Maybe Table
  pub station : Maybe Station
  pub month : Maybe Dated

-- "a clock with no table, station or month"
abbrev pub empty_state : State
empty_state = record { table = none; station = none; month = none }
