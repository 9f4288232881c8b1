-- `fields::written_in` meets its contract. A field is blanks and what is behind them: `field-behind`; the two ways of the sign. Assumes nothing.
use native.Mathlib.Omega.{arith}
use mathlib.Core.Path.{sym, ◌∙◌}
use Rattle.columns.proofs.Columns.{padded-next}
use Rattle.fields.specs.inner.Kept.{written_in}
use Rattle.fields.proofs.numerals.Digits.{begins-within}
use Rattle.fields.proofs.numerals.Sizes.{field-behind}
use Rattle.fields.proofs.written_in.Goals as goal

pub overflow_add-start : goal.overflow_add-start
overflow_add-start c =
    omega (arith, begins-within _ c.part-field.result.now c.run_end-start.result c.args.width (sym c.begins.ensures ∙ c.if-begins.true))

pub returns-then-begins : goal.returns-then-begins
unfolding written_in
returns-then-begins c =
    let e = field-behind c.args.line.now c.part-field.result.now c.args.from c.args.width c.run_end-start.result c.part-field.ensures c.run_end-start.ensures in
    rw (e, ← c.begins.ensures, c.if-begins.true, padded-next 32 c.part-field.result.now c.run_end-start.result c.args.width, c.size_of.ensures)

pub returns : goal.returns
unfolding written_in
returns c =
    let e = field-behind c.args.line.now c.part-field.result.now c.args.from c.args.width c.run_end-start.result c.part-field.ensures c.run_end-start.ensures in
    rw (e, ← c.begins.ensures, c.if-begins.false, c.size_of-2.ensures)
