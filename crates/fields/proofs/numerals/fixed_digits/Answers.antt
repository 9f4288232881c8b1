-- `fields::numerals::fixed_digits` meets its contract. A cap put on between the digits shows only at the end: `capped-before`, twice. Assumes nothing.
use mathlib.Core.Path.{◌∙◌}
use Prim.Native.Nat.{◌+◌, ◌-◌}
use lib.ListN.{replicate}
use Rattle.columns.specs.Columns.{columns}
use Rattle.fields.specs.Numerals as spec
use Rattle.fields.specs.inner.Cap.{cap}
use Rattle.fields.proofs.numerals.Digits.{capped-before}
use Rattle.fields.proofs.numerals.fixed_digits.Goals as goal

pub returns : goal.returns
returns c =
    let whole = spec.numeral 0 (columns c.args.field.now c.args.k (c.args.point - c.args.k)) in
    let part = columns c.args.field.now (c.args.point + 1) (c.args.stop - (c.args.point + 1)) in
    c.zeros.ensures
    ∙ capped-before cap c.numeral.result (spec.numeral whole part) (replicate c.args.missing 48)
    (c.numeral.ensures ∙ capped-before cap c.numeral-whole.result whole part c.numeral-whole.ensures)
