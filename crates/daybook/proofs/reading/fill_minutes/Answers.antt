-- `daybook::reading::fill_minutes` meets its contract: behind the minutes that are filled in stand those of the lines that are left. A booking
-- has eight bytes at the least, so that there is a place for each. Assumes nothing.
use Rattle.std.proofs.Common.{rules, ◌<◌, length, arith, sym, ◌∙◌}
use lib.ListN.{length-set}
use Rattle.daybook.proofs.reading.Walk.{rest_far, one_more}
use Rattle.daybook.proofs.reading.fill_minutes.Goals as goal

pub loop-rest-preserved : goal.loop-rest-preserved
loop-rest-preserved c =
    let rest = c.loop-rest.rest.now in
    let some : 0 < length rest = search rules in
    let booked = rw (c.without_return.ensures, c.first_line.ensures, c.in-Some.is) at (sym c.booking_of.ensures) in
    let far = rest_far rest some c.in-Some.minute booked in
    let room : c.loop-rest.count < length c.loop-rest.minutes = omega (arith, far, c.requires) in
    record {
      room = rw c.rest_lines-rest.ensures (omega (arith, far));
      places = length-set c.loop-rest.minutes c.loop-rest.count c.in-Some.minute ∙ c.loop-rest.invariant.places;
      left = rw c.rest_lines-rest.ensures (one_more rest some c.loop-rest.minutes c.loop-rest.count c.in-Some.minute room booked) ∙ c.loop-rest.invariant.left;
    }
