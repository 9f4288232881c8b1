-- `station_file::stationfields::side_on` meets its contract: the mark first, then the side that it and a minus say.
use Rattle.station_file.specs.Cards.{is_south}
use Rattle.station_file.proofs.stationfields.side_on.Goals as goal

pub returns-then-is_mark : goal.returns-then-is_mark
unfolding is_south
returns-then-is_mark c =
    rw (← c.column-first.ensures, ← c.column-second.ensures, ← c.is_mark.ensures, c.if-is_mark.true, ← c.is_minus_before.ensures, ← c.has_south_letter.ensures) c.side_of.ensures

pub returns : goal.returns
unfolding is_south
returns c =
    rw (c.only.ensures, ← c.column-first.ensures, ← c.column-second.ensures, ← c.is_mark.ensures, c.if-is_mark.false)
