-- `script::hourly_at` meets its contract, by what `numbers_at` says. Assumes nothing.
use Rattle.script.proofs.Numbers.{hourly-is}
use Rattle.script.proofs.hourly_at.Goals as goal

pub returns-in_err-station : goal.returns-in_err-station
returns-in_err-station c =
    rw c.from_residual.ensures (rw c.in_err-station.was at (hourly-is _ _ c.numbers_at.ensures))

pub returns : goal.returns
returns c =
    rw c.in_ok-station.was at (hourly-is _ _ c.numbers_at.ensures)
