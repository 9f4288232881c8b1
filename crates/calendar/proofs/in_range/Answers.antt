-- `calendar::in_range` meets its contract: the two ranges, the month's asked only where the year's holds.
use Rattle.calendar.specs.Calendar.{in_range}
use Rattle.calendar.proofs.in_range.Goals as goal

pub returns-then-year_in_range : goal.returns-then-year_in_range
unfolding in_range
returns-then-year_in_range c =
    rw (← c.year_in_range.ensures, c.if-year_in_range.true) c.between.ensures

pub returns-else-year_in_range : goal.returns-else-year_in_range
unfolding in_range
returns-else-year_in_range c =
    rw (← c.year_in_range.ensures, c.if-year_in_range.false)
