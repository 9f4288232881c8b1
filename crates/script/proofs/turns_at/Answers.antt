-- `script::turns_at` meets its contract, by what `numbers_at` says. Assumes nothing.
use Rattle.script.proofs.Numbers.{turns-is}
use Rattle.script.proofs.turns_at.Goals as goal

pub returns-in_err-first : goal.returns-in_err-first
returns-in_err-first c =
    rw c.from_residual.ensures (rw c.in_err-first.was at (turns-is _ _ c.numbers_at.ensures))

pub returns : goal.returns
returns c =
    rw c.in_ok-first.was at (turns-is _ _ c.numbers_at.ensures)
