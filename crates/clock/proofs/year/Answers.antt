-- `clock::year` meets its contract: refused by what is asked first, or what the sheet gives (`YearSheet` in calls). Assumes nothing.
use mathlib.Core.Path.{sym}
use Rattle.table.specs.inner.View.{table_of}
use Rattle.station.specs.inner.Station.{station_of}
use Rattle.calls.specs.inner.Flags.{when}
use Rattle.calls.proofs.YearSheet.{year-passed, year-refused}
use Rattle.clock.specs.View.{view, month_in}
use Rattle.clock.proofs.year.Goals as goal

pub sheet-requires : goal.sheet-requires
sheet-requires c =
    let on = year-passed c.args.clock.tabled c.args.clock.stationed c.args.sheet.year (sym c.in_default.ensures) in
    let sound = c.requires on.0 in record {
      table = (sound.cosines, (sound.table, on.2));
      strides_value = sound.strides;
    }

pub returns-in-Err : goal.returns-in-Err
unfolding view
returns-in-Err c =
    record { gives = year-refused c.args.sheet _ _ _ (table_of c.args.clock.table) (station_of c.args.clock.station) c.args.clock.tabled c.args.clock.stationed c.args.clock.dated (month_in c.args.clock) _ _ (sym c.in-Err.ensures) }

pub returns : goal.returns
unfolding view
returns c =
    let on = year-passed c.args.clock.tabled c.args.clock.stationed c.args.sheet.year (sym c.in_default.ensures) in
    record { gives = rw (on.0, on.1) (c.sheet.ensures.gives (when c.args.clock.dated (month_in c.args.clock))) }
