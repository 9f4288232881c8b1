-- `clock::place_station` meets its contract: a station's two cases (`Stations`). Assumes nothing.
use mir.Syntax.{w32}
use mir.ValLaws.{to_z-of_z}
use Rattle.station.specs.Records.{records_of}
use Rattle.station.specs.Station.{station_lent}
use Rattle.clock.proofs.Stations.{taken-accepted, taken_refused}
use Rattle.clock.proofs.place_station.Goals as goal

pub returns-in-Ok : goal.returns-in-Ok
returns-in-Ok c =
    rw c.with_station.ensures
    (taken-accepted c.args.clock (station_lent c.args.latitude c.args.strides (records_of c.args.rows c.args.n)) c.requires c.in-Ok.station (rw (to_z-of_z w32 c.args.latitude c.ranges.latitude) at c.in-Ok.ensures))

pub returns-in-Err : goal.returns-in-Err
returns-in-Err c =
    taken_refused c.args.clock (station_lent c.args.latitude c.args.strides (records_of c.args.rows c.args.n)) c.requires c.in-Err.refused (rw (to_z-of_z w32 c.args.latitude c.ranges.latitude) at c.in-Err.ensures)
