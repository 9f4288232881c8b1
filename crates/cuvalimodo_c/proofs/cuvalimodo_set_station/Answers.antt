-- `cuvalimodo_set_station` meets its contract: the records taken apart make the station that was lent (clock's `Stations`). Assumes nothing.
use mir.Syntax.{w32}
use mir.ValLaws.{to_z-of_z}
use Rattle.clock.proofs.Stations.{lent-post}
use Rattle.cuvalimodo_c.specs.Answers.{verdict_returned}
use Rattle.cuvalimodo_c.proofs.cuvalimodo_set_station.Goals as goal

pub returns : goal.returns
returns c =
    let placed = rw (to_z-of_z w32 c.args.latitude c.ranges.latitude) at c.place_station-after.ensures in
    (lent-post c.args.clock.now c.args.latitude c.args.strides c.args.records.now (verdict_returned c.place_station-after.result.verdict) c.place_station-after.result.clock c.rows_of-rows.result c.rows_of-rows.ensures placed.0, placed.1)
