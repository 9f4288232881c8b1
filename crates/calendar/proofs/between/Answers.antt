-- `calendar::between` meets its contract: a number between two: the two tests in order, each of which decides one branch.
use borrow.Author.Tests.{le-leb, lt-leb}
use Rattle.calendar.specs.Calendar.{between}
use Rattle.calendar.proofs.between.Goals as goal

pub returns-then-low-number : goal.returns-then-low-number
unfolding between
returns-then-low-number c =
    simp (le-leb _ _ c.if-low-number.true)

pub returns-else-low-number : goal.returns-else-low-number
unfolding between
returns-else-low-number c =
    simp (lt-leb _ _ c.if-low-number.false)
