-- `card_shallows::shallowcard::own_place` meets its contract. A place is among those of two kinds where it is among one: `among-both`. Assumes nothing.
use Rattle.refusals.specs.Places.{is_among}
use Rattle.card.specs.Card.{new_place}
use Rattle.card.proofs.places.Defined.{among-both}
use mathlib.Core.Path.{◌≡◌}
use Rattle.card.specs.inner.Places.{places_in}
use Rattle.card_shallows.proofs.shallowcard.own_place.Goals as goal

pub returns-then-is_among : goal.returns-then-is_among
unfolding new_place
returns-then-is_among c =
    rw (c.only.ensures, ← c.place_named.ensures, c.in-Ok.is, among-both, ← c.is_among.ensures, c.if-is_among.true)

pub returns-then-is_among-2 : goal.returns-then-is_among-2
unfolding new_place
returns-then-is_among-2 c =
    let shallow : c.is_among-in-Ok.result ≡ is_among c.in-Ok.place (places_in 6 c.args.before.now.cards c.args.before.now.count) = c.is_among-in-Ok.ensures in
    rw (c.only-then-is_among-2.ensures, ← c.place_named.ensures, c.in-Ok.is, among-both, ← c.is_among.ensures, c.if-is_among.false, ← shallow, c.if-is_among-2.true)

pub returns-else-is_among-2 : goal.returns-else-is_among-2
unfolding new_place
returns-else-is_among-2 c =
    rw (← c.place_named.ensures, c.in-Ok.is, among-both, ← c.is_among.ensures, c.if-is_among.false, ← c.is_among-in-Ok.ensures, c.if-is_among-2.false)

pub returns-in-Err : goal.returns-in-Err
unfolding new_place
returns-in-Err c =
    rw (← c.place_named.ensures, c.in-Err.is)
