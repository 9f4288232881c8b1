-- `turns::strides::amplitude_of` meets its contract: the name is found in the row of names, or it is not (`Names`). Assumes nothing.
use Rattle.station.specs.inner.Station.{station_of}
use Rattle.columns.specs.Columns.{columns}
use Rattle.turns.proofs.strides.Names.{amplitude-by}
use Rattle.turns.proofs.strides.amplitude_of.Goals as goal

pub returns-in-Some : goal.returns-in-Some
returns-in-Some c =
    rw (amplitude-by c.args.table (station_of c.args.station) (columns c.args.name.now 0 5), ← c.find_name-found.ensures, c.in-Some.is) c.amplitude_at.ensures

pub returns-in-None : goal.returns-in-None
returns-in-None c =
    rw (amplitude-by c.args.table (station_of c.args.station) (columns c.args.name.now 0 5), ← c.find_name-found.ensures, c.in-None.is)
