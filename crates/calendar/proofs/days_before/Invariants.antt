use mathlib.Core.Path.{◌≡◌}
use Prim.Native.Nat.{◌-◌, ◌≤◌}
use Rattle.calendar.specs.Calendar.{months_days}
use Rattle.calendar.proofs.days_before.Given as goal

abbrev pub invariant-loop-passed : goal.invariant-loop-passed
invariant-loop-passed l = record {
  days : l.days ≡ months_days l.year l.passed;
  before : l.passed ≤ l.month - 1;
}
