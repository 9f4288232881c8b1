-- `heights::series::advance` meets its contract: `advance-is`. Assumes nothing.
use Prim.Native.Nat.{◌%◌}
use native.Mathlib.Omega.{arith}
use native.Mathlib.Nat.{mul-le-mul}
use Rattle.heights.proofs.minuteangle.Turning.{lap}
use Rattle.heights.proofs.series.Advancing.{advance-is}
use borrow.Author.Rules.{rules}
use Rattle.heights.proofs.series.advance.Goals as goal

pub overflow_mul-result : goal.overflow_mul-result
overflow_mul-result c =
    record { fits = omega (arith, mul-le-mul {n₁ = c.args.frequency % lap} {m₁ = c.args.step} {n₂ = lap} {m₂ = 1_440} (omega arith) (search rules)) }

pub returns : goal.returns
returns c =
    advance-is c.args.frequency c.args.step
