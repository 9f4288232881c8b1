-- `script::bookings_at` meets its contract, by what `numbers_at` says. Assumes nothing.
use Rattle.script.proofs.Numbers.{bookings-is}
use Rattle.script.proofs.bookings_at.Goals as goal

pub returns-in_err-count : goal.returns-in_err-count
returns-in_err-count c =
    rw c.from_residual.ensures (rw c.in_err-count.was at (bookings-is _ _ c.numbers_at.ensures))

pub returns : goal.returns
returns c =
    rw c.in_ok-count.was at (bookings-is _ _ c.numbers_at.ensures)
