use Prim.Native.Nat.{◌^◌}
use lib.IntN.{pos}
use Rattle.cosine.specs.Fixed.{fixed_cosine, fixed_sine}
use Rattle.table.specs.inner.View.{satellite_of}
use Rattle.month_satellites.specs.inner.Factors.{factors_of}
use Rattle.month_satellites.specs.inner.View.{longitudes_of}
use Rattle.month_satellites.specs.Satellites.{satellite_term}
use Rattle.month_satellites.proofs.satellites.Running.{Running}
use Rattle.month_satellites.proofs.satellites.main_sum.Given as goal

abbrev pub invariant-loop-k : goal.invariant-loop-k
invariant-loop-k l = record {
  x : Running (satellite_term fixed_cosine (factors_of l.g) (longitudes_of l.l)) (satellite_of l.table.satelliteangles l.table.satelliteratios) (pos (2 ^ 20)) l.start l.end l.k l.x;
  y : Running (satellite_term fixed_sine (factors_of l.g) (longitudes_of l.l)) (satellite_of l.table.satelliteangles l.table.satelliteratios) (pos 0) l.start l.end l.k l.y;
}
