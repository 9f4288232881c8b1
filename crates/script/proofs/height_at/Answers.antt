-- `script::height_at` meets its contract, by what `numbers_at` says. Assumes nothing.
use Rattle.script.proofs.Numbers.{height-is}
use Rattle.script.proofs.height_at.Goals as goal

pub returns-in_err-minute : goal.returns-in_err-minute
returns-in_err-minute c =
    rw c.from_residual.ensures (rw c.in_err-minute.was at (height-is _ _ c.numbers_at.ensures))

pub returns : goal.returns
returns c =
    rw c.in_ok-minute.was at (height-is _ _ c.numbers_at.ensures)
