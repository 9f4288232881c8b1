-- `calendar::is_long_february` meets its contract: the month's test decides, and then the year's.
use borrow.Author.Tests.{eq-eqb, ne_eqb}
use Rattle.calendar.specs.Calendar.{is_fourth}
use Rattle.calendar.proofs.is_long_february.Goals as goal

pub returns-then-month-eq2 : goal.returns-then-month-eq2
unfolding is_fourth
returns-then-month-eq2 c =
    simp (eq-eqb _ _ c.if-month-eq2.true)

pub returns-else-month-eq2 : goal.returns-else-month-eq2
unfolding is_fourth
returns-else-month-eq2 c =
    simp (ne_eqb _ _ c.if-month-eq2.false)
