-- `byvalue::year` meets its contract: the clock's own answer, read in numbers. Assumes nothing.
use borrow.Author.Rules.{rules}
use Rattle.cuvalimodo_c.proofs.byvalue.year.Goals as goal

pub returns : goal.returns
returns c =
    (rw c.told_turns.ensures.0 c.year.ensures, c.told_turns.ensures.1)
