-- `clock::prepare_month` meets its contract: a month's two cases (`Months`). Assumes nothing.
use Rattle.clock.proofs.Months.{month-ready, month-refused}
use Rattle.clock.proofs.prepare_month.Goals as goal

pub returns-in-Ok : goal.returns-in-Ok
returns-in-Ok c =
    rw (c.with_month.ensures, c.month_minutes-last.ensures) (month-ready c.args.clock c.args.year c.args.month c.requires.0 c.in-Ok.made c.in-Ok.ensures)

pub returns-in-Err : goal.returns-in-Err
returns-in-Err c = month-refused c.args.clock c.args.year c.args.month c.requires.0 c.in-Err.field-0 c.month_answer.result c.in-Err.ensures (rw c.in-Err.is at c.month_answer.ensures)
