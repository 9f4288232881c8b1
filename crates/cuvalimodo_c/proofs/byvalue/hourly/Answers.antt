-- `byvalue::hourly` meets its contract: the clock's own answer, read in numbers. Assumes nothing.
use borrow.Author.Rules.{rules}
use Rattle.cuvalimodo_c.proofs.byvalue.hourly.Goals as goal

pub returns : goal.returns
returns c =
    (rw c.told_cards.ensures.0 c.hourly.ensures, c.told_cards.ensures.1)
