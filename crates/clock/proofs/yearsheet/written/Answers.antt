-- `clock::yearsheet::written` meets its contract: 10, or the turns and the series (`Sheets`). Assumes nothing.
use Rattle.heights.specs.inner.Lent.{months_lent}
use Rattle.clock.proofs.Sheets.{too_many_lem, turns-found}
use Rattle.clock.proofs.yearsheet.written.Goals as goal

pub returns-in-Ok : goal.returns-in-Ok
returns-in-Ok c =
    turns-found (months_lent c.args.lent) c.args.stride c.args.sheet c.args.series.now c.args.minutes.now c.args.heights.now c.in-Ok.found _ _ c.in-Ok.ensures c.series.ensures

pub returns-in-Err : goal.returns-in-Err
returns-in-Err c =
    too_many_lem (months_lent c.args.lent) c.args.stride c.args.sheet c.args.series.now c.args.minutes.now c.args.heights.now c.in-Err.refused _ _ c.in-Err.ensures
