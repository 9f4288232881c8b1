-- `table::put_u16` meets its contract: the loop copies the row number by number (`Copied`).
use Rattle.table.proofs.Rows.{copied_none, copied_next, copied_all}
use Rattle.table.proofs.put_u16.Goals as goal

pub loop-j-init : goal.loop-j-init
loop-j-init c =
    copied_none

pub loop-j-preserved : goal.loop-j-preserved
loop-j-preserved c =
    copied_next 0 c.loop-j-test.true c.loop-j.invariant

pub returns : goal.returns
returns c =
    copied_all c.loop-j-test.false c.loop-j.invariant
