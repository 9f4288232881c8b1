-- `byvalue::set_date` meets its contract. Assumes nothing.
use borrow.Author.Rules.{rules}
use Rattle.cuvalimodo_c.proofs.byvalue.set_date.Goals as goal

pub returns : goal.returns
returns c =
    (rw (c.in_numbers.ensures.0, c.in_numbers.ensures.1.1) c.set_date.ensures, c.in_numbers.ensures.1.0)
