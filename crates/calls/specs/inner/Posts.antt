-- Only inner contracts cite this: what the check of a station promises.
-- Assumes nothing.
use Rattle.std.specs.Prelude.{Bool, ◌≡◌, Result, IfOk}
use Rattle.refusals.specs.Outcome.{answered, outcome_of}
use Rattle.refusals.specs.declared.Refused.{Refused}
use Rattle.station.specs.Station.{Station}
use Rattle.table.specs.declared.Table.{Table}
use Rattle.table.specs.inner.View.{table_of}
use Rattle.station.specs.declared.Station as code
use Rattle.station.specs.inner.Station.{station_of}
use Rattle.calls.specs.Calls.{station_returns}
use Rattle.calls.specs.inner.Flags.{tabled_only}

-- what a station comes to, where a table is there or not
pub record TakenPost (tabled : Bool) (table : Table) (station : Station) (r : Result code.Station Refused) : Type 0 where
  pub says : answered (outcome_of r) ≡ station_returns (tabled_only tabled (table_of table)) station
  pub keeps : IfOk r (λ s. station_of s ≡ station)
