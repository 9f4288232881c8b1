-- `byvalue::load_cards` meets its contract. Assumes nothing.
use borrow.Author.Rules.{rules}
use Rattle.cuvalimodo_c.proofs.byvalue.load_cards.Goals as goal

pub returns : goal.returns
returns c =
    (rw (c.in_numbers.ensures.0, c.in_numbers.ensures.1.1) c.load_cards.ensures, c.in_numbers.ensures.1.0)
