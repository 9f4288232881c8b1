-- Only inner contracts cite this: what the station's functions promise.
-- Assumes nothing.
use Rattle.std.specs.Prelude.{ℕ, [], ◌≡◌, Result, IfOk}
use Rattle.refusals.specs.Outcome.{answered, outcome_of}
use Rattle.refusals.specs.declared.Refused.{Refused}
use Rattle.station.specs.declared.records.Rows.{Rows}
use Rattle.station.specs.Records.{records_of}
use Rattle.station.specs.declared.Station as code
use Rattle.station.specs.Station.{Station, records_outcome, station_outcome}
use Rattle.station.specs.inner.Station.{station_of, station_upto}

pub record RecordsPost (frequencies : ℕ) (empty : code.Station) (n : ℕ) (rows : Rows) (r : Result code.Station Refused) : Type 0 where
  pub says : answered (outcome_of r) ≡ records_outcome frequencies [] 1 (records_of rows n)
  pub keeps : IfOk r (λ s. s ≡ station_upto empty rows n)

-- a station is checked, and kept where it is accepted
pub record StationPost (frequencies : ℕ) (station : Station) (r : Result code.Station Refused) : Type 0 where
  pub says : answered (outcome_of r) ≡ station_outcome frequencies station
  pub keeps : IfOk r (λ s. station_of s ≡ station)
