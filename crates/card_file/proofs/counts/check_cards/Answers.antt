-- What a card file counts equals `counts_of` of what reading it comes to.
use Rattle.card_file.proofs.counts.Counted.{counts-accepted}
use Rattle.card_file.proofs.counts.check_cards.Goals as goal

pub returns-in-Ok : goal.returns-in-Ok
returns-in-Ok c =
    rw (← c.in-Ok.ensures) (counts-accepted c.in-Ok.table c.satellites_of.result c.satellites_of.ensures)

pub returns-in-Err : goal.returns-in-Err
returns-in-Err c =
    rw (← c.in-Err.ensures, c.number_of.ensures)
