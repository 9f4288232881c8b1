use mathlib.Core.Path.{◌≡◌}
use Prim.Native.Nat.{◌-◌}
use Rattle.station.specs.Records.{records_from}
use Rattle.station.specs.inner.Station.{station_of}
use Rattle.turns.specs.Strides.{amplitude_at}
use Rattle.turns.proofs.strides.amplitude_at.Given as goal

abbrev pub invariant-loop-k : goal.invariant-loop-k
invariant-loop-k l = amplitude_at (records_from l.station.places l.station.amplitudes l.station.lags l.k (l.count - l.k)) l.place ≡ amplitude_at (station_of l.station).records l.place
