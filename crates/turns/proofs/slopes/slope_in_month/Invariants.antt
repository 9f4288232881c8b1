use Prim.Native.Nat.{◌-◌, ◌*◌, ◌≤◌}
use mathlib.Core.Path.{◌≡◌}
use lib.IntN.{nat_abs, ◌+ℤ◌}
use Rattle.month_prepared.specs.inner.View.{constituents_after}
use Rattle.heights.specs.inner.Lent.{constituents_lent}
use Rattle.turns.specs.Slope.{falls_at}
use Rattle.turns.proofs.slopes.Falls.{most}
use Rattle.turns.proofs.slopes.slope_in_month.Given as goal

abbrev pub invariant-loop-k : goal.invariant-loop-k
invariant-loop-k l = record {
  size : nat_abs l.falls ≤ l.k * most;
  left : l.falls +ℤ falls_at (constituents_after l.lent.arguments.now l.lent.lags.now l.lent.frequencies.now l.lent.ps.now l.lent.qs.now l.k (l.lent.count - l.k)) l.minute ≡ falls_at (constituents_lent l.lent) l.minute;
}
