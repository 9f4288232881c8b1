-- `calls::bookings::bookings_answer` meets its contract: the state first, then 31, and then the minutes. Assumes nothing.
use borrow.Author.Tests.{eq-eqb, ne_eqb}
use lib.ListN.{length}
use Rattle.calls.proofs.bookings.Minutes.{bookings-by}
use Rattle.calls.proofs.bookings.bookings_answer.Goals as goal

pub returns-then-minutes-places : goal.returns-then-minutes-places
returns-then-minutes-places c =
    rw (c.at.ensures, bookings-by c.args.there.tabled c.args.there.stationed c.args.there.dated c.args.last c.args.minutes.now c.args.places, ← c.in_default.ensures, ne_eqb (length c.args.minutes.now) c.args.places c.if-minutes-places.true)

pub returns : goal.returns
returns c =
    rw (bookings-by c.args.there.tabled c.args.there.stationed c.args.there.dated c.args.last c.args.minutes.now c.args.places, ← c.in_default.ensures, eq-eqb (length c.args.minutes.now) c.args.places c.if-minutes-places.false) c.minutes_answer.ensures

pub returns-in-Err : goal.returns-in-Err
returns-in-Err c =
    rw (bookings-by c.args.there.tabled c.args.there.stationed c.args.there.dated c.args.last c.args.minutes.now c.args.places, ← c.in-Err.ensures)
