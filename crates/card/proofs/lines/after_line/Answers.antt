-- `card::lines::after_line` meets its contract: the line ends with its LF, or with the file.
use native.Mathlib.Omega.{arith}
use Rattle.card.proofs.lines.Walk.{line-within, behind-lf, behind-last}
use Rattle.card.proofs.lines.after_line.Goals as goal

pub overflow_add-end : goal.overflow_add-end
overflow_add-end c =
    omega (arith, line-within c.args.file.now c.args.at c.requires.0, c.requires.1, c.well_formed.0.1)

pub returns-then-end-file : goal.returns-then-end-file
returns-then-end-file c =
    (omega arith, omega (arith, c.if-end-file.true), rw c.requires.1 (behind-lf c.args.file.now c.args.at c.requires.0))

pub returns : goal.returns
returns c =
    (omega (arith, c.if-end-file.false, c.requires.0), omega (arith, line-within c.args.file.now c.args.at c.requires.0, c.requires.1), behind-last c.args.file.now c.args.at c.requires.0 _ (rw c.requires.1) c.if-end-file.false)
