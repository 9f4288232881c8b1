-- `script::words::field_at` meets its contract: the number of the word at the place, by `reading-is`. Assumes nothing.
use Rattle.script.proofs.words.Words.{reading-is, from_past}
use Rattle.script.proofs.words.field_at.Goals as goal

pub returns-then-line-at : goal.returns-then-line-at
returns-then-line-at c =
    rw (from_past _ _ c.if-line-at.true)

pub returns-in_err-value : goal.returns-in_err-value
returns-in_err-value c =
    rw c.from_residual.ensures (rw c.in_err-value.was at (reading-is c.args.line.now c.args.at c.word_end-end.result c.args.most c.number_of.result c.if-line-at.false c.word_end-end.ensures.value c.number_of.ensures))

pub returns : goal.returns
returns c =
    rw c.in_ok-value.was at (reading-is c.args.line.now c.args.at c.word_end-end.result c.args.most c.number_of.result c.if-line-at.false c.word_end-end.ensures.value c.number_of.ensures)
