-- `calls::hourcards::hourly_answer` meets its contract: the state first, and then 32. Assumes nothing.
use borrow.Author.Tests.{lt-ltb, le-ltb}
use Rattle.hourly.specs.Month.{most_station_number}
use Rattle.calls.proofs.asked.States.{hourly-by}
use Rattle.calls.proofs.hourcards.hourly_answer.Goals as goal

pub returns-then-number-gt-STATION_NUMBER : goal.returns-then-number-gt-STATION_NUMBER
returns-then-number-gt-STATION_NUMBER c =
    rw (c.at.ensures, hourly-by c.args.there.tabled c.args.there.stationed c.args.there.dated c.args.number, ← c.in_default.ensures, lt-ltb most_station_number c.args.number c.if-number-gt-STATION_NUMBER.true)

pub returns : goal.returns
returns c =
    rw (hourly-by c.args.there.tabled c.args.there.stationed c.args.there.dated c.args.number, ← c.in_default.ensures, le-ltb most_station_number c.args.number c.if-number-gt-STATION_NUMBER.false)

pub returns-in-Err : goal.returns-in-Err
returns-in-Err c =
    rw (hourly-by c.args.there.tabled c.args.there.stationed c.args.there.dated c.args.number, ← c.in-Err.ensures)
