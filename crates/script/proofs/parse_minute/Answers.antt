-- `script::parse_minute` meets its contract, by what `numbers_at` says of the line's first word. Assumes nothing.
use Rattle.script.specs.inner.Left.{words_from}
use Rattle.script.proofs.Numbers.{minute-is}
use Rattle.script.proofs.parse_minute.Goals as goal

pub returns-in_err-minute : goal.returns-in_err-minute
unfolding words_from
returns-in_err-minute c =
    rw c.from_residual.ensures (rw c.in_err-minute.was at (minute-is _ _ c.numbers_at.ensures))

pub returns : goal.returns
unfolding words_from
returns c =
    rw c.in_ok-minute.was at (minute-is _ _ c.numbers_at.ensures)
