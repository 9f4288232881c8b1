-- `monthturns::month_turns` meets its contract: the clock's own answer, and the turns put behind its. Assumes nothing.
use Rattle.monthturns.proofs.Month.{month-found, month-refused}
use Rattle.monthturns.proofs.month_turns.Goals as goal

pub returns : goal.returns
returns c =
    month-found c.turns.result c.turns.ensures c.in-Ok.is c.with_ends.ensures.count_le_count c.with_ends.ensures.kept

pub returns-in-Err : goal.returns-in-Err
returns-in-Err c = month-refused c.turns.result c.turns.ensures c.in-Err.is
