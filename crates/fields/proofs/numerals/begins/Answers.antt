-- `fields::numerals::begins` meets its contract. A column before the end is the first of the rest: `begins-more`, `begins-none`. Assumes nothing.
use Rattle.fields.proofs.numerals.Digits.{begins-more, begins-none}
use Rattle.fields.proofs.numerals.begins.Goals as goal

pub returns-then-end-k : goal.returns-then-end-k
returns-then-end-k c =
    rw (begins-none c.args.b c.args.field.now c.args.k c.args.end c.if-end-k.true)

pub returns : goal.returns
returns c =
    rw (begins-more c.args.b c.args.field.now c.args.k c.args.end c.if-end-k.false, ← c.column.ensures)
