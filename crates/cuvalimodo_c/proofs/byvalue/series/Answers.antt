-- `byvalue::series` meets its contract: the clock's own answer, read in numbers. Assumes nothing.
use borrow.Author.Rules.{rules}
use Rattle.cuvalimodo_c.proofs.byvalue.series.Goals as goal

pub returns : goal.returns
returns c =
    (rw c.told.ensures.0 c.series.ensures, c.told.ensures.1)
