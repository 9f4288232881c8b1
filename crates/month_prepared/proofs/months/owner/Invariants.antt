use Prim.Native.Nat.{◌+◌}
use mathlib.Core.Path.{◌≡◌}
use Rattle.month_prepared.specs.inner.Rows.{minutes_after}
use Rattle.month_prepared.proofs.months.owner.Given as goal

-- the minutes of the months passed, and the minutes left, make the minute
abbrev pub invariant-loop-month : goal.invariant-loop-month
invariant-loop-month l = minutes_after l.months.lasts 0 l.month + l.left ≡ l.minute
