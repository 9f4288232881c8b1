-- `calendar::year_minutes` meets its contract: the days before a thirteenth month are the year's. Assumes nothing.
use borrow.Author.Rules.{rules}
use Rattle.calendar.specs.Calendar.{year_minutes}
use Rattle.calendar.proofs.year_minutes.Goals as goal

pub returns : goal.returns
unfolding year_minutes
returns c =
    search rules
