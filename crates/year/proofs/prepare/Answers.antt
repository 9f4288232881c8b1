-- `year::prepare` meets its contract: the months done so far stand in their rows; each arm of the `?` cites what its month says (`Prepared`).
use borrow.Author.Rules.{rules}
use mathlib.Core.Path.{◌≡◌, sym}
use native.Mathlib.Omega.{arith}
use lib.ListN.{length}
use Rattle.limits.specs.Limits.{most_records}
use Rattle.calendar.specs.Calendar.{months_a_year}
use Rattle.year.proofs.Prepared.{month-in-range, one_more, refused-at, all_done}
use Rattle.year.proofs.prepare.Goals as goal

pub prepare-requires-clause-month_value : goal.prepare-requires-clause-month_value
prepare-requires-clause-month_value c =
    month-in-range c.args.year c.loop-m.m c.requires.1.0 c.loop-m-test.true

pub returns-in-Err : goal.returns-in-Err
returns-in-Err c =
    refused-at c.args.table c.args.station c.args.year c.loop-m.m c.loop-m.rows.frequencies c.loop-m.rows.arguments c.loop-m.rows.ps c.loop-m.rows.qs c.loop-m.invariant c.loop-m-test.true c.in-Err.refused (sym c.in-Err.ensures)

pub loop-m-preserved : goal.loop-m-preserved
loop-m-preserved c =
    let month = c.in-Ok.month in
    let vs : length month.arguments ≡ most_records = search rules in
    let ps : length month.ps ≡ most_records = search rules in
    let qs : length month.qs ≡ most_records = search rules in
    rw (c.put_month.ensures.frequencies, c.put_month.ensures.arguments, c.put_month.ensures.cosines, c.put_month.ensures.sines)
    (one_more c.args.table c.args.station c.args.year c.loop-m.m c.loop-m.rows.frequencies c.loop-m.rows.arguments c.loop-m.rows.ps c.loop-m.rows.qs c.loop-m.invariant c.loop-m-test.true month (sym c.in-Ok.ensures)
    (record { there = c.loop-m-test.true; whole = vs; long = c.loop-m.invariant.rows.arguments }) (record { there = c.loop-m-test.true; whole = ps; long = c.loop-m.invariant.rows.cosines }) (record { there = c.loop-m-test.true; whole = qs; long = c.loop-m.invariant.rows.sines }))

pub returns : goal.returns
returns c =
    let all : c.loop-m.m ≡ months_a_year = omega arith in
    all_done c.args.table c.args.station c.args.year c.loop-m.rows.frequencies c.loop-m.rows.arguments c.loop-m.rows.ps c.loop-m.rows.qs (rw all at c.loop-m.invariant)
