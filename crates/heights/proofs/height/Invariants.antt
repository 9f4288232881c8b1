use Prim.Native.Nat.{◌-◌, ◌*◌, ◌^◌, ◌≤◌}
use mathlib.Core.Path.{◌≡◌}
use lib.IntN.{nat_abs, ◌+ℤ◌}
use Rattle.month_prepared.specs.inner.View.{constituents_after}
use Rattle.heights.specs.Height.{sum_of_shares}
use Rattle.heights.specs.inner.Lent.{constituents_lent}
use Rattle.heights.proofs.height.Given as goal

abbrev pub invariant-loop-k : goal.invariant-loop-k
invariant-loop-k l = record {
  size : nat_abs l.sum ≤ l.k * 2 ^ 32;
  left : l.sum +ℤ sum_of_shares (constituents_after l.lent.arguments.now l.lent.lags.now l.lent.frequencies.now l.lent.ps.now l.lent.qs.now l.k (l.lent.count - l.k)) l.minute ≡ sum_of_shares (constituents_lent l.lent) l.minute;
}
