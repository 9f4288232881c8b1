-- `script::date_at` meets its contract, by what `numbers_at` says. Assumes nothing.
use Rattle.script.proofs.Numbers.{date-is}
use Rattle.script.proofs.date_at.Goals as goal

pub returns-in_err-year : goal.returns-in_err-year
returns-in_err-year c =
    rw c.from_residual.ensures (rw c.in_err-year.was at (date-is _ _ c.numbers_at.ensures))

pub returns : goal.returns
returns c =
    rw c.in_ok-year.was at (date-is _ _ c.numbers_at.ensures)
