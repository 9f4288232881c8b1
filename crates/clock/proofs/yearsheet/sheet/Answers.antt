-- `clock::yearsheet::sheet` meets its contract: 11, 9, or the sheet of the months' rows (`Sheets`). Assumes nothing.
use mathlib.Core.Path.{sym, ◌∙◌}
use Rattle.year.specs.inner.Rows.{YearMonths, held_by}
use Rattle.year.proofs.Twelve.{has-rows}
use Rattle.clock.proofs.Sheets.{sheet-inside, sheet-refused, minutes-refused, sheet-written}
use Rattle.clock.proofs.yearsheet.sheet.Goals as goal

pub returns-in-Err : goal.returns-in-Err
returns-in-Err c =
    let is : YearMonths c.args.sheet.year (held_by c.args.station) c.months_of-months.result = rw c.held.ensures at c.months_of-months.ensures in
    sheet-refused c.args.table c.args.station c.args.sheet c.requires.table.1.1 c.months_of-months.result is _ _ _ _ c.args.series.now c.args.minutes.now c.args.heights.now c.in-Err.refused c.in-Err.ensures

pub returns-then-sheet_outside : goal.returns-then-sheet_outside
returns-then-sheet_outside c =
    let is : YearMonths c.args.sheet.year (held_by c.args.station) c.months_of-months.result = rw c.held.ensures at c.months_of-months.ensures in
    rw c.at.ensures (minutes-refused c.args.table c.args.station c.args.sheet c.requires.table.1.1 c.months_of-months.result is _ _ _ _ c.args.series.now c.args.minutes.now c.args.heights.now c.in_default.ensures (sym c.sheet_outside.ensures ∙ c.if-sheet_outside.true))

pub written-requires : goal.written-requires
written-requires c =
    let is : YearMonths c.args.sheet.year (held_by c.args.station) c.months_of-months.result = rw c.held.ensures at c.months_of-months.ensures in
    let within = sym c.sheet_outside.ensures ∙ c.if-sheet_outside.false in
    record {
      rows = record {
        lent = record { table = c.requires.table.0; following = is.following; rows = has-rows c.args.sheet.year (held_by c.args.station) c.months_of-months.result _ _ _ is.is c.in_default.ensures.rows };
        frequencies = rw is.is.constituents (c.in_default.ensures.within c.requires.table.1.0);
      };
      sheet_within = sheet-inside c.args.table c.args.station c.args.sheet c.requires.table.1.1 c.months_of-months.result is _ within c.station_stride-stride.result c.station_stride-stride.ensures.result_nonzero;
    }

pub returns : goal.returns
returns c =
    let is : YearMonths c.args.sheet.year (held_by c.args.station) c.months_of-months.result = rw c.held.ensures at c.months_of-months.ensures in
    let within = sym c.sheet_outside.ensures ∙ c.if-sheet_outside.false in
    sheet-written c.args.table c.args.station c.args.sheet c.requires.table.1.1 c.months_of-months.result is _ _ _ _ c.args.series.now c.args.minutes.now c.args.heights.now c.in_default.ensures within c.station_stride-stride.result c.station_stride-stride.ensures.value c.written.ensures
