use mathlib.Core.Path.{◌≡◌}
use lib.ListN.{length}
use Rattle.limits.specs.Limits.{most_records}
use Rattle.heights.specs.inner.Angles.{Angles}
use Rattle.heights.proofs.series.angles_at.Given as goal

abbrev pub invariant-loop-k : goal.invariant-loop-k
invariant-loop-k l = record {
  room : length l.angles ≡ most_records;
  right : Angles l.lent.arguments.now l.lent.lags.now l.lent.frequencies.now l.k l.minute l.angles;
}
