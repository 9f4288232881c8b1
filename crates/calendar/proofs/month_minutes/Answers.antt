-- `calendar::month_minutes` meets its contract: days times 1,440, which fits since no month is over 31 days.
use native.Mathlib.Omega.{arith}
use Rattle.calendar.specs.Calendar.{month_minutes}
use Rattle.calendar.proofs.Months.{month-short}
use Rattle.calendar.proofs.month_minutes.Goals as goal

pub overflow_mul-result : goal.overflow_mul-result
overflow_mul-result c =
    omega (arith, month-short c.args.year c.args.month)

pub returns : goal.returns
unfolding month_minutes
returns c =
    rw c.month_days.ensures
