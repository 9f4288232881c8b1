-- `script::minus_at` meets its contract: the byte at the place is the first of its word. Assumes nothing.
use Rattle.script.proofs.Latitudes.{minus_is, no_minus}
use Rattle.script.proofs.minus_at.Goals as goal

pub returns-then-at-line : goal.returns-then-at-line
returns-then-at-line c =
    minus_is c.args.line.now c.args.at c.if-at-line.true

pub returns : goal.returns
returns c =
    no_minus c.args.line.now c.args.at c.if-at-line.false
