-- `calls::asked::state_answer` meets its contract: the tests in 01's order. Assumes nothing.
use borrow.Author.Tests.{not-true, not-false}
use Rattle.calls.proofs.asked.state_answer.Goals as goal

pub returns-then-not-there : goal.returns-then-not-there
returns-then-not-there c =
    rw c.at.ensures (simp (not-true c.args.there.tabled c.if-not-there.true))

pub returns-then-not-there-2 : goal.returns-then-not-there-2
returns-then-not-there-2 c =
    rw c.at-then-not-there-2.ensures (simp (not-false c.args.there.tabled c.if-not-there.false, not-true c.args.there.stationed c.if-not-there-2.true))

pub returns-then-not-there-3 : goal.returns-then-not-there-3
returns-then-not-there-3 c =
    rw c.at-then-not-there-3.ensures (simp (not-false c.args.there.tabled c.if-not-there.false, not-false c.args.there.stationed c.if-not-there-2.false, not-true c.args.there.dated c.if-not-there-3.true))

pub returns : goal.returns
returns c =
    simp (not-false c.args.there.tabled c.if-not-there.false, not-false c.args.there.stationed c.if-not-there-2.false, not-false c.args.there.dated c.if-not-there-3.false)
