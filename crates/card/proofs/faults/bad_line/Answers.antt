-- `card::faults::bad_line` meets its contract: over 80 columns, or else a bad byte. Assumes nothing.
use borrow.Author.Tests.{lt-ltb, le-ltb}
use Rattle.card.specs.Faults.{bad_line}
use Rattle.card.proofs.faults.bad_line.Goals as goal

pub returns-then-line-gt-COLUMNS : goal.returns-then-line-gt-COLUMNS
unfolding bad_line
returns-then-line-gt-COLUMNS c =
    rw (lt-ltb _ _ c.if-line-gt-COLUMNS.true) c.only.ensures

pub returns : goal.returns
unfolding bad_line
returns c =
    rw (le-ltb _ _ c.if-line-gt-COLUMNS.false) c.only-2.ensures
