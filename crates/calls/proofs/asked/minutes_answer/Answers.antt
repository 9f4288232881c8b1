-- `calls::asked::minutes_answer` meets its contract: the state first, and then the minutes. Assumes nothing.
use Rattle.calls.proofs.asked.States.{minutes-by}
use Rattle.calls.proofs.asked.minutes_answer.Goals as goal

pub returns-then-outside : goal.returns-then-outside
returns-then-outside c =
    rw (c.at.ensures, minutes-by c.args.there.tabled c.args.there.stationed c.args.there.dated c.args.outside, ← c.in_default.ensures, c.if-outside.true)

pub returns : goal.returns
returns c =
    rw (minutes-by c.args.there.tabled c.args.there.stationed c.args.there.dated c.args.outside, ← c.in_default.ensures, c.if-outside.false)

pub returns-in-Err : goal.returns-in-Err
returns-in-Err c =
    rw (minutes-by c.args.there.tabled c.args.there.stationed c.args.there.dated c.args.outside, ← c.in-Err.ensures)
