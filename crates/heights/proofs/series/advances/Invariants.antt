use mathlib.Core.Path.{◌≡◌}
use lib.ListN.{length}
use Rattle.limits.specs.Limits.{most_records}
use Rattle.heights.specs.inner.Angles.{Advances}
use Rattle.heights.proofs.series.advances.Given as goal

abbrev pub invariant-loop-k : goal.invariant-loop-k
invariant-loop-k l = record {
  room : length l.ticks ≡ most_records;
  right : Advances l.frequencies l.k l.step l.ticks;
}
