use mathlib.Core.Path.{◌≡◌}
use mathlib.Core.List.{[]}
use Prim.Native.Nat.{◌-◌, ◌≤◌}
use Rattle.table.specs.inner.View.{listed, satellite_of}
use Rattle.card_mains.specs.Satellites.{satellites_on}
use Rattle.card_mains.specs.inner.Satellites.{AsBefore, SatelliteRoom}
use Rattle.card_mains.proofs.satellitecard.satellites_on.Given as goal

abbrev pub invariant-loop-j : goal.invariant-loop-j
invariant-loop-j l = (l.j ≤ l.count) × (satellites_on l.line (listed (satellite_of l.angles l.ratios) l.first l.j) l.j (l.count - l.j) ≡ satellites_on l.line [] 0 l.count)
    × AsBefore (satellite_of l.angles l.ratios) (satellite_of l.initial.angles l.initial.ratios) l.first × SatelliteRoom l.angles l.ratios
