-- `station_file::stationfields::station_card` meets its contract: the line first, then the fields.
use Rattle.card.specs.Card.{due_card}
use Rattle.station_file.specs.Cards.{station_card}
use Rattle.station_file.proofs.stationfields.station_card.Goals as goal

pub returns-then-line_good : goal.returns-then-line_good
unfolding station_card due_card
returns-then-line_good c =
    rw (← c.line_good.ensures, c.if-line_good.true) c.latitude_fields.ensures

pub returns : goal.returns
unfolding station_card due_card
returns c =
    rw (c.bad_line.ensures, ← c.line_good.ensures, c.if-line_good.false)
