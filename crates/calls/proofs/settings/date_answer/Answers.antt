-- `calls::settings::date_answer` meets its contract: the state first, and then 8. Assumes nothing.
use borrow.Author.Tests.{not-true, not-false}
use mathlib.Core.Path.{sym, ◌∙◌}
use Rattle.calls.proofs.asked.States.{date-by}
use Rattle.calls.proofs.settings.date_answer.Goals as goal

pub returns-then-not-in_range : goal.returns-then-not-in_range
returns-then-not-in_range c =
    rw (c.at.ensures, date-by c.args.tabled c.args.stationed c.args.year c.args.month, ← c.in_default.ensures, sym c.in_range.ensures ∙ not-true c.in_range.result c.if-not-in_range.true-raw)

pub returns : goal.returns
returns c =
    rw (date-by c.args.tabled c.args.stationed c.args.year c.args.month, ← c.in_default.ensures, sym c.in_range.ensures ∙ not-false c.in_range.result c.if-not-in_range.false-raw)

pub returns-in-Err : goal.returns-in-Err
returns-in-Err c =
    rw (date-by c.args.tabled c.args.stationed c.args.year c.args.month, ← c.in-Err.ensures)
