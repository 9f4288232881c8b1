-- `clock::set_date` meets its contract: refused by what is asked first, or what its month comes to (`Months`). Assumes nothing.
use mathlib.Core.Path.{sym}
use Rattle.calls.proofs.Dates.{date-passed}
use Rattle.clock.proofs.Months.{date-post, date-post-refused}
use Rattle.clock.proofs.set_date.Goals as goal

pub prepare_month-requires : goal.prepare_month-requires
prepare_month-requires c =
    let passed = date-passed c.args.clock.tabled c.args.clock.stationed c.args.year c.args.month (sym c.in-Ok.ensures) in
    (c.requires passed.0, passed.2)

pub returns-in-Ok : goal.returns-in-Ok
returns-in-Ok c = date-post c.args.clock c.args.year c.args.month (sym c.in-Ok.ensures) _ _ c.prepare_month.ensures

pub returns-in-Err : goal.returns-in-Err
returns-in-Err c = date-post-refused c.args.clock c.args.year c.args.month c.requires _ _ c.in-Err.ensures
