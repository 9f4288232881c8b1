-- `heights::minuteangle::angle_at` meets its contract: `angle-is`. Assumes nothing.
use Prim.Native.Nat.{ℕ, ◌*◌, ◌%◌, ◌≤◌}
use mathlib.Core.Path.{sym}
use native.Mathlib.Omega.{arith}
use native.Mathlib.Nat.{mul-le-mul}
use Rattle.limits.specs.Limits.{most_minutes}
use Rattle.heights.proofs.minuteangle.Turning.{lap, angle-is}
use Rattle.heights.proofs.minuteangle.angle_at.Goals as goal

-- the laps fit
within : (f m : ℕ) → m ≤ most_minutes → f % lap * m ≤ lap * most_minutes
within f m h = mul-le-mul {n₁ = f % lap} {m₁ = m} {n₂ = lap} {m₂ = most_minutes} (omega arith) h

pub overflow_mul-laps : goal.overflow_mul-laps
overflow_mul-laps c =
    record { fits = omega (arith, within c.args.frequency c.args.minute c.requires) }

pub overflow_add-laps : goal.overflow_add-laps
overflow_add-laps c =
    record { fits = omega (arith, within c.args.frequency c.args.minute c.requires) }

pub returns : goal.returns
returns c =
    sym (angle-is c.args.argument c.args.lag c.args.frequency c.args.minute (omega arith))
