-- `calls::settings::station_answer` meets its contract: 21 where there is no table, else what its records come to. Assumes nothing.
use mathlib.Core.Path.{sym}
use mir.Syntax.{w32}
use mir.ValLaws.{to_z-of_z}
use Rattle.calls.specs.Calls.{station_returns}
use Rattle.calls.proofs.asked.States.{table-there, table-missing}
use Rattle.calls.proofs.settings.Tables.{frequencies-count}
use Rattle.calls.proofs.settings.station_answer.Goals as goal

pub returns : goal.returns
unfolding station_returns
returns c =
    let there = table-there c.args.tabled (sym c.in_default.ensures) in
    record {
      says = simp (there, frequencies-count c.args.table) (rw (to_z-of_z w32 c.args.latitude c.ranges.latitude) at c.take_station.ensures.says);
      keeps = rw (to_z-of_z w32 c.args.latitude c.ranges.latitude) at c.take_station.ensures.keeps;
    }

pub returns-in-Err : goal.returns-in-Err
returns-in-Err c =
    record { says = sym (table-missing c.args.tabled _ _ _ _ (sym c.in-Err.ensures)); keeps = tt }
