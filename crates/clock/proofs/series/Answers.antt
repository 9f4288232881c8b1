-- `clock::series` meets its contract: refused by what is asked first, or the month's heights (`Posed` in calls). Assumes nothing.
use mathlib.Core.Path.{sym}
use Rattle.table.specs.inner.View.{table_of}
use Rattle.station.specs.inner.Station.{station_of}
use Rattle.calls.proofs.asked.Passed.{series-within}
use Rattle.calls.proofs.Posed.{series-refused, series-given}
use Rattle.clock.specs.View.{view, month_in}
use Rattle.clock.proofs.series.Goals as goal

pub series-requires : goal.series-requires
series-requires c =
    let k = c.args.clock in
    let w = series-within k.tabled k.stationed k.dated k.last c.args.start c.args.step _ (sym (rw c.there.ensures at c.in_default.ensures)) in
    record { lent = (c.month_lent.ensures.rows (c.requires w.0)).lent; series_within = rw c.month_lent.ensures.end w.1 }

pub returns-in-Err : goal.returns-in-Err
unfolding view
returns-in-Err c =
    let k = c.args.clock in
    record { gives = series-refused k.tabled (table_of k.table) k.stationed (station_of k.station) k.dated (month_in k) c.args.start c.args.step _ _ _ (sym (rw c.there.ensures at c.in-Err.ensures)) }

pub returns : goal.returns
unfolding view
returns c =
    let k = c.args.clock in
    rw (c.series.ensures, c.month_lent.ensures.heights)
    (record { gives = series-given k.tabled (table_of k.table) k.stationed (station_of k.station) k.dated (month_in k) c.args.start c.args.step _ (sym (rw c.there.ensures at c.in_default.ensures)) })
