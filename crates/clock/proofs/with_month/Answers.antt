-- `clock::with_month` meets its contract: the month's rows, and as many as there is room for. Assumes nothing.
use Rattle.clock.proofs.with_month.Goals as goal

pub returns : goal.returns
returns c =
    rw c.held.ensures
