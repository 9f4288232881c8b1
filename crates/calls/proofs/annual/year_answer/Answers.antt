-- `calls::annual::year_answer` meets its contract: the state first, and then 8. Assumes nothing.
use borrow.Author.Tests.{not-true, not-false}
use mathlib.Core.Path.{sym, ◌∙◌}
use Rattle.calls.proofs.asked.States.{year-by}
use Rattle.calls.proofs.annual.year_answer.Goals as goal

pub returns-then-not-year_in_range : goal.returns-then-not-year_in_range
returns-then-not-year_in_range c =
    rw (c.at.ensures, year-by c.args.tabled c.args.stationed c.args.year, ← c.in_default.ensures, sym c.year_in_range.ensures ∙ not-true c.year_in_range.result c.if-not-year_in_range.true-raw)

pub returns : goal.returns
returns c =
    rw (year-by c.args.tabled c.args.stationed c.args.year, ← c.in_default.ensures, sym c.year_in_range.ensures ∙ not-false c.year_in_range.result c.if-not-year_in_range.false-raw)

pub returns-in-Err : goal.returns-in-Err
returns-in-Err c =
    rw (year-by c.args.tabled c.args.stationed c.args.year, ← c.in-Err.ensures)
