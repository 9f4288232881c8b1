-- `swings::months::month_of` meets its contract, by what its callees give. Assumes nothing.
use mathlib.Core.Path.{◌≡◌}
use Prim.Native.Nat.{◌-◌}
use native.Mathlib.Omega.{arith}
use Rattle.calendar.proofs.Months.{month-short}
use Rattle.swings.proofs.months.month_of.Goals as goal

pub overflow_add-before : goal.overflow_add-before
overflow_add-before c =
    omega (arith, c.days_before-before.ensures.small, c.month_days-days.ensures, month-short c.args.year c.args.month)

pub returns : goal.returns
returns c =
    let all : c.args.count - 0 ≡ c.args.count = omega arith in
    let from = rw all at c.turn_from-from.ensures in
    rw (c.extreme_turn-2.ensures, c.extreme_turn.ensures, c.day_end-to.ensures, c.days_before.ensures.is, from, c.month_days-days.ensures, c.days_before-before.ensures.is)
