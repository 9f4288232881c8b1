-- `card::lines::begins` meets its contract: the definition branches as the code does.
use borrow.Author.Tests.{le-leb, lt-leb}
use Rattle.card.specs.Card.{opening}
use Rattle.card.proofs.lines.begins.Goals as goal

pub returns-then-is_blank : goal.returns-then-is_blank
unfolding opening
returns-then-is_blank c =
    simp (← c.line_good.ensures, c.if-line_good.true, ← c.is_blank.ensures, c.if-is_blank.true)

pub returns-then-most-before : goal.returns-then-most-before
unfolding opening
returns-then-most-before c =
    simp (c.only.ensures, ← c.line_good.ensures, c.if-line_good.true, ← c.is_blank.ensures, c.if-is_blank.false, le-leb _ _ c.if-most-before.true)

pub returns-then-line_good : goal.returns-then-line_good
unfolding opening
returns-then-line_good c =
    simp (← c.line_good.ensures, c.if-line_good.true, ← c.is_blank.ensures, c.if-is_blank.false, lt-leb _ _ c.if-most-before.false)

pub returns : goal.returns
unfolding opening
returns c =
    simp (c.bad_line.ensures, ← c.line_good.ensures, c.if-line_good.false)
