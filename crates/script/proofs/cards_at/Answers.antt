-- `script::cards_at` meets its contract, by what `numbers_at` says. Assumes nothing.
use Rattle.script.proofs.Numbers.{cards-is}
use Rattle.script.proofs.cards_at.Goals as goal

pub returns-in_err-bytes : goal.returns-in_err-bytes
returns-in_err-bytes c =
    rw c.from_residual.ensures (rw c.in_err-bytes.was at (cards-is _ _ c.numbers_at.ensures))

pub returns : goal.returns
returns c =
    rw c.in_ok-bytes.was at (cards-is _ _ c.numbers_at.ensures)
