-- `fields::numerals::numeral` meets its contract. The loop's invariant: the digits left, behind the number so far, write the capped number. Rests on `capped-before`. Assumes nothing.
use native.Mathlib.Omega.{arith}
use mathlib.Core.Path.{◌≡◌, refl, sym, ◌∙◌}
use Prim.Native.Nat.{min, ◌+◌, ◌*◌, ◌-◌}
use lib.ListN.{get_or}
use Rattle.columns.specs.Columns.{columns}
use Rattle.fields.specs.inner.Cap.{cap}
use Rattle.fields.proofs.numerals.Digits.{numeral-more, numeral-none, capped-before}
use Rattle.fields.proofs.numerals.numeral.Goals as goal

pub loop-i-init : goal.loop-i-init
loop-i-init c =
    (c.requires, refl)

pub loop-i-preserved : goal.loop-i-preserved
loop-i-preserved c =
    let d = get_or c.args.field.now c.loop-i.i 32 - 48 in
    let e : c.push-v.result ≡ min cap (10 * c.loop-i.v + d) = rw c.column.ensures at (rw c.digit.ensures.value at c.push-v.ensures) in
    (omega arith, capped-before cap c.push-v.result (10 * c.loop-i.v + d) (columns c.args.field.now (c.loop-i.i + 1) (c.args.end - (c.loop-i.i + 1))) e ∙ (rw (numeral-more c.args.field.now c.loop-i.v c.loop-i.i c.args.end c.loop-i-test.true) at c.loop-i.invariant.1))

pub returns : goal.returns
returns c =
    let e = rw (numeral-none c.args.field.now c.loop-i.v c.loop-i.i c.args.end c.loop-i-test.false) at c.loop-i.invariant.1 in
    let m : min cap c.loop-i.v ≡ c.loop-i.v = omega arith in
    sym m ∙ e
