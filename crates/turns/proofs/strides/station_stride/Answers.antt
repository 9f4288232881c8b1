-- `turns::strides::station_stride` meets its contract: the four amplitudes by name, and the stride that they give. Assumes nothing.
use Rattle.turns.specs.Strides.{station_stride}
use mathlib.Core.Path.{◌≡◌}
use mathlib.Core.List.{[], ◌∷◌}
use Rattle.columns.specs.Columns.{padded}
use Rattle.table.specs.inner.View.{table_of}
use Rattle.station.specs.inner.Station.{station_of}
use Rattle.turns.specs.Strides.{amplitude_of}
use Rattle.turns.proofs.strides.station_stride.Goals as goal

pub returns : goal.returns
unfolding station_stride padded station_of
returns c =
    let t = table_of c.args.table in
    let s = station_of c.args.station in
    let k1 : c.amplitude_of-k1.result ≡ amplitude_of t s (75 ∷ 49 ∷ 32 ∷ 32 ∷ 32 ∷ []) = c.amplitude_of-k1.ensures in
    let o1 : c.amplitude_of-o1.result ≡ amplitude_of t s (79 ∷ 49 ∷ 32 ∷ 32 ∷ 32 ∷ []) = c.amplitude_of-o1.ensures in
    let m2 : c.amplitude_of-m2.result ≡ amplitude_of t s (77 ∷ 50 ∷ 32 ∷ 32 ∷ 32 ∷ []) = c.amplitude_of-m2.ensures in
    let s2 : c.amplitude_of-s2.result ≡ amplitude_of t s (83 ∷ 50 ∷ 32 ∷ 32 ∷ 32 ∷ []) = c.amplitude_of-s2.ensures in record {
      value = rw (← k1, ← o1, ← m2, ← s2) c.stride.ensures.value;
      result_nonzero = c.stride.ensures.result_nonzero;
    }
