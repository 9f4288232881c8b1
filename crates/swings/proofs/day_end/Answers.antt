-- `swings::day_end` meets its contract: a case for the last day. Assumes nothing.
use borrow.Author.Tests.{le-leb, lt-leb}
use Rattle.swings.proofs.day_end.Goals as goal

pub returns-then-days-day : goal.returns-then-days-day
returns-then-days-day c =
    rw (le-leb _ _ c.if-days-day.true)

pub returns : goal.returns
returns c =
    rw (lt-leb _ _ c.if-days-day.false) c.turn_from.ensures
