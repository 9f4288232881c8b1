-- What is wrong with a station that was read and that the clock refuses, by the refusal and its place.
-- Assumes nothing.
use Rattle.std.specs.Prelude.{ℕ, ◌-◌, ◌≡◌, false, cond, eqb, ltb, get_or}
use Rattle.limits.specs.Limits.{most_records}
use Rattle.card.specs.declared.faults.What.TheVariants.{Card, Name, Latitude, Amplitude, PhaseLag}
use Rattle.card.specs.declared.faults.Trouble.TheVariants.{OutOfRange, Twice, NoFrequency, TooManyRecords}
use Rattle.card.specs.declared.faults.Fault.{Fault}
use Rattle.card.specs.Faults.{only, fault_number}
use Rattle.refusals.specs.Outcome.{refused}
use Rattle.station.specs.declared.records.Rows.{Rows}
use Rattle.station.specs.Station.{Station, amplitude_outside, station_outcome}
use Rattle.station.specs.Strides.{strides_outside}

-- "each record's place (5, 4), amplitude, phase": of a record with this amplitude, by the refusal's number
abbrev pub record_fault : ℕ → ℕ → Fault
record_fault number amplitude =
    cond (eqb number 5) (only Name NoFrequency)
    (cond (eqb number 4) (only Name Twice) (cond (amplitude_outside amplitude) (only Amplitude OutOfRange) (only PhaseLag OutOfRange)))

-- "A station checks latitude (place 0), count (place 147, the first record too many), then each record"
unfoldable pub station_fault : ℕ → ℕ → Rows → Fault
station_fault number place rows =
    cond (eqb place 0) (only Latitude OutOfRange)
    (cond (ltb most_records place) (only Card TooManyRecords) (record_fault number (get_or rows.amplitudes (place - 1) 0)))

-- What is proved of it (proofs/stationfaults/Numbers.antt): the fault falls under the number by which the station is refused. (Its strides, 35,
-- do not stand in the file.)
abbrev pub FaultsFit : Type 0
FaultsFit =
    (frequencies : ℕ) (station : Station) (rows : Rows) (number place : ℕ) → strides_outside station.strides ≡ false
    → station_outcome frequencies station ≡ refused number place → fault_number (station_fault number place rows) ≡ number
