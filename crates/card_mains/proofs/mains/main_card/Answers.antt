-- `card_mains::mains::main_card` meets its contract: its name, then its numbers.
use Rattle.card_mains.specs.Mains.{main_card}
use Rattle.card_mains.proofs.mains.main_card.Goals as goal

pub returns-in-Ok : goal.returns-in-Ok
unfolding main_card
returns-in-Ok c =
    rw (← c.main_place.ensures, c.in-Ok.is) c.main_numbers.ensures

pub returns-in-Err : goal.returns-in-Err
unfolding main_card
returns-in-Err c =
    rw (← c.main_place.ensures, c.in-Err.is)
