-- `calendar::month_days` meets its contract: 29 in a long February; else the table's entry, and none outside the table.
use mathlib.Core.Path.{◌≡◌, sym}
use native.Mathlib.Omega.{arith}
use Rattle.calendar.specs.Calendar.{month_days, month_lengths}
use Rattle.calendar.proofs.Months.{no-month, length_at}
use Rattle.calendar.proofs.month_days.Goals as goal

pub returns-then-is_long_february : goal.returns-then-is_long_february
unfolding month_days
returns-then-is_long_february c =
    rw (← c.is_long_february.ensures, c.if-is_long_february.true)

pub returns-then-month-lt1 : goal.returns-then-month-lt1
unfolding month_days
returns-then-month-lt1 c =
    let none : c.args.month ≡ 0 = omega arith in rw none

pub returns-then-month-gt12 : goal.returns-then-month-gt12
returns-then-month-gt12 c =
    sym (no-month c.args.year c.args.month c.if-month-gt12.true)

pub returns : goal.returns
unfolding month_days
returns c =
    rw (← c.is_long_february.ensures, c.if-is_long_february.false)
    (length_at month_lengths c.args.month (omega arith))
