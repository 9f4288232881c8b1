-- `heights::minuteangle::angle_of_card` meets its contract: `angle-of-card`. Assumes nothing.
use Prim.Native.Nat.{ℕ, ◌*◌, ◌≤◌}
use mathlib.Core.Path.{sym}
use native.Mathlib.Omega.{arith}
use native.Mathlib.Nat.{mul-le-mul}
use Rattle.limits.specs.Limits.{most_minutes}
use Rattle.heights.proofs.minuteangle.Turning.{angle-of-card}
use Rattle.heights.proofs.minuteangle.angle_of_card.Goals as goal

-- what a constituent advances from the month's start fits
within : (f m : ℕ) → f ≤ 4_999_999_999 → m ≤ most_minutes → f * (1_314 * m) ≤ 4_999_999_999 * (1_314 * most_minutes)
within f m g h = mul-le-mul {n₁ = f} {m₁ = 1_314 * m} {n₂ = 4_999_999_999} {m₂ = 1_314 * most_minutes} g (omega arith)

pub overflow_mul-result-2 : goal.overflow_mul-result-2
overflow_mul-result-2 c =
    record { fits = omega (arith, within c.args.frequency c.args.minute c.requires.1.0 c.requires.1.1) }

pub overflow_add-result : goal.overflow_add-result
overflow_add-result c =
    record { fits = omega (arith, within c.args.frequency c.args.minute c.requires.1.0 c.requires.1.1) }

pub returns : goal.returns
returns c =
    let more = within c.args.frequency c.args.minute c.requires.1.0 c.requires.1.1 in
    sym (angle-of-card c.args.argument c.args.lag c.args.frequency c.args.minute _ (omega (arith, more)))
