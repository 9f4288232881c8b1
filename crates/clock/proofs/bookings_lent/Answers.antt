-- `clock::bookings_lent` meets its contract: refused by what is asked first, or the month's heights (`Booked` in calls). Assumes nothing.
use native.Mathlib.Omega.{arith}
use mathlib.Core.Path.{sym}
use Rattle.calls.proofs.Booked.{bookings-refused, bookings-given, bookings-within}
use Rattle.clock.specs.View.{constituents_in}
use Rattle.clock.proofs.Lent.{parts-made, bookings-from-parts}
use Rattle.clock.proofs.bookings_lent.Goals as goal

pub heights_at-requires : goal.heights_at-requires
heights_at-requires c =
    let k = c.args.held.now in
    let w = bookings-within k.tabled k.stationed k.dated k.last c.args.minutes.now _ (sym (rw c.there.ensures at c.in_default.ensures)) in
    let made = parts-made k c.requires in
    let parts = made w.0 in
    record { lent = c.lent.ensures.lent made w.0; all_within = (λ i h. omega (arith, w.1.1 i h, parts.1.1), w.1.0) }

pub returns-in-Err : goal.returns-in-Err
returns-in-Err c =
    let k = c.args.held.now in
    bookings-from-parts k c.args.minutes.now _ _ _
    (record { gives = λ t st year month. bookings-refused t st (record { year = year; month = month; prepared = record { last = k.last; constituents = constituents_in k } }) c.args.minutes.now k.tabled k.stationed k.dated _ _ _ (sym (rw c.there.ensures at c.in-Err.ensures)) })

pub returns : goal.returns
returns c =
    let k = c.args.held.now in
    rw (c.heights_at.ensures, c.lent.ensures.constituents)
    (bookings-from-parts k c.args.minutes.now _ _ _
    (record { gives = λ t st year month. bookings-given t st (record { year = year; month = month; prepared = record { last = k.last; constituents = constituents_in k } }) c.args.minutes.now k.tabled k.stationed k.dated _ (sym (rw c.there.ensures at c.in_default.ensures)) }))
