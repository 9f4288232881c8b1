-- `clock::set_station` meets its contract: the records taken apart make the station that was lent (`Stations`). Assumes nothing.
use mir.Syntax.{w32}
use mir.ValLaws.{to_z-of_z}
use Rattle.refusals.specs.Outcome.{outcome_of}
use Rattle.clock.proofs.Stations.{lent-post}
use Rattle.clock.proofs.set_station.Goals as goal

pub returns : goal.returns
returns c =
    lent-post c.args.clock c.args.latitude c.args.strides c.args.records.now (outcome_of c.place_station.result.answer) c.place_station.result.clock c.rows_of-rows.result c.rows_of-rows.ensures (rw (to_z-of_z w32 c.args.latitude c.ranges.latitude) at c.place_station.ensures)
