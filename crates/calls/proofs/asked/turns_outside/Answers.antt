-- `calls::asked::turns_outside` meets its contract: the two tests. Assumes nothing.
use borrow.Author.Tests.{lt-ltb, le-ltb}
use Rattle.calls.proofs.asked.turns_outside.Goals as goal

pub returns-then-end-last : goal.returns-then-end-last
returns-then-end-last c =
    simp (lt-ltb _ _ c.if-end-last.true)

pub returns : goal.returns
returns c =
    simp (le-ltb _ _ c.if-end-last.false)
