-- `station::take_records`: the records passed were accepted, so those left answer for the whole; and the station that they make.
use mathlib.Core.Path.{◌≡◌}
use mathlib.Core.List.{[]}
use Prim.Native.Nat.{◌+◌, ◌-◌}
use Rattle.station.specs.Station.{records_outcome}
use Rattle.station.specs.inner.Station.{places_before, station_upto}
use Rattle.station.specs.Records.{records_from, records_of}
use Rattle.station.proofs.take_records.Given as goal

abbrev pub invariant-loop-k : goal.invariant-loop-k
invariant-loop-k l =
    record {
      left : records_outcome l.frequencies (places_before l.rows.places l.k) (l.k + 1) (records_from l.rows.places l.rows.amplitudes l.rows.phases l.k (l.n - l.k)) ≡ records_outcome l.frequencies [] 1 (records_of l.rows l.n);
      kept : l.station ≡ station_upto l.fn.empty l.rows l.k;
    }
