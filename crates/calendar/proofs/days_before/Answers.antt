-- `calendar::days_before` meets its contract: the loop adds one month's days at a time, and months past the twelfth have none.
use mathlib.Core.Path.{◌≡◌, refl}
use Prim.Native.Nat.{◌+◌, ◌-◌}
use native.Mathlib.Omega.{arith}
use Rattle.calendar.specs.Calendar.{months_days}
use Rattle.calendar.proofs.Months.{month-short, months-short, months-more, whole-year}
use Rattle.calendar.proofs.days_before.Goals as goal

pub loop-passed-init : goal.loop-passed-init
unfolding months_days
loop-passed-init c =
    record { days = refl; before = omega arith }

pub overflow_add-days : goal.overflow_add-days
overflow_add-days c =
    omega (arith, months-short c.args.year c.loop-passed.passed, month-short c.args.year (c.loop-passed.passed + 1))

pub loop-passed-preserved : goal.loop-passed-preserved
loop-passed-preserved c =
    record { days = omega (arith, months-more c.args.year c.loop-passed.passed); before = omega arith }

pub returns-then-month-passed : goal.returns-then-month-passed
returns-then-month-passed c =
    let all : c.args.month - 1 ≡ c.loop-passed.passed = omega arith in record {
      is = rw all c.loop-passed.invariant.days;
      small = omega (arith, months-short c.args.year c.loop-passed.passed);
    }

pub returns : goal.returns
returns c =
    let all : c.loop-passed.passed ≡ 12 = omega arith in record {
      is = rw (whole-year c.args.year (c.args.month - 1) (omega arith)) (rw all at c.loop-passed.invariant.days);
      small = omega (arith, months-short c.args.year c.loop-passed.passed);
    }
