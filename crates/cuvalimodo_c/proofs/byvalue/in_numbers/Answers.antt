-- `byvalue::in_numbers` meets its contract. Assumes nothing.
use borrow.Author.Rules.{rules}
use mathlib.Core.Path.{refl}
use Rattle.cuvalimodo_c.proofs.byvalue.in_numbers.Goals as goal

pub returns : goal.returns
returns c =
    (c.told-verdict.ensures.0, (c.told-verdict.ensures.1, refl))
