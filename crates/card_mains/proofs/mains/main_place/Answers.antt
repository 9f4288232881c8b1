-- `card_mains::mains::main_place` meets its contract: the place of the name, then whether it is defined.
use Rattle.card.specs.Card.{new_place}
use Rattle.card_mains.proofs.mains.main_place.Goals as goal

pub returns-then-is_among : goal.returns-then-is_among
unfolding new_place
returns-then-is_among c =
    rw (c.only.ensures, ← c.place_named.ensures, c.in-Ok.is, ← c.is_among.ensures, c.if-is_among.true)

pub returns-else-is_among : goal.returns-else-is_among
unfolding new_place
returns-else-is_among c =
    rw (← c.place_named.ensures, c.in-Ok.is, ← c.is_among.ensures, c.if-is_among.false)

pub returns-in-Err : goal.returns-in-Err
unfolding new_place
returns-in-Err c =
    rw (← c.place_named.ensures, c.in-Err.is)
