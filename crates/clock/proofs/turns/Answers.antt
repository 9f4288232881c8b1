-- `clock::turns` meets its contract: refused by what is asked first, or what the search gives, 10 or the turns (`Posed` in calls). Assumes nothing.
use mathlib.Core.Path.{sym, ◌∙◌}
use Rattle.table.specs.inner.View.{table_of}
use Rattle.station.specs.inner.Station.{station_of}
use Rattle.calls.proofs.asked.Passed.{turns-within}
use Rattle.calls.proofs.Posed.{turns-refused, turns-given}
use Rattle.clock.specs.View.{view, month_in}
use Rattle.clock.proofs.turns.Goals as goal

pub station_stride-requires : goal.station_stride-requires
station_stride-requires c =
    let k = c.args.clock in
    let w = turns-within k.tabled k.stationed k.dated k.last c.args.first c.args.last (sym (rw c.there.ensures at c.in_default.ensures)) in
    (c.requires w.0).strides

pub turns-requires : goal.turns-requires
turns-requires c =
    let k = c.args.clock in
    let w = turns-within k.tabled k.stationed k.dated k.last c.args.first c.args.last (sym (rw c.there.ensures at c.in_default.ensures)) in
    record {
      rows = c.month_lent.ensures.rows (c.requires w.0);
      reaches = record { some = c.station_stride.ensures.result_nonzero.0; short = c.station_stride.ensures.result_nonzero.1; order = w.2; within = rw c.month_lent.ensures.end w.1 };
    }

pub returns-in-Err : goal.returns-in-Err
unfolding view
returns-in-Err c =
    let k = c.args.clock in
    record { gives = turns-refused k.tabled (table_of k.table) k.stationed (station_of k.station) k.dated (month_in k) c.args.first c.args.last _ _ _ _ (sym (rw c.there.ensures at c.in-Err.ensures)) }

pub returns : goal.returns
unfolding view
returns c =
    let k = c.args.clock in
    let law = turns-given k.tabled (table_of k.table) k.stationed (station_of k.station) k.dated (month_in k) c.args.first c.args.last _ _ (sym (rw c.there.ensures at c.in_default.ensures)) in
    let found = rw (c.station_stride.ensures.value, c.month_lent.ensures.heights, c.month_lent.ensures.slopes) at c.turns.ensures in
    record { gives = found ∙ law }
