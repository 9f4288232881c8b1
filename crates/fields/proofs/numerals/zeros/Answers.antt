-- `fields::numerals::zeros` meets its contract. The loop's invariant: the zeros left, behind the number so far, write the capped number. Rests on `capped-before`. Assumes nothing.
use native.Mathlib.Omega.{arith}
use mathlib.Core.Path.{◌≡◌, sym, ◌∙◌}
use Prim.Native.Nat.{min, ◌+◌, ◌*◌, ◌-◌}
use native.Mathlib.Nat.{sub-zero}
use lib.ListN.{replicate}
use Rattle.fields.specs.inner.Cap.{cap}
use Rattle.fields.proofs.numerals.Digits.{zeros-more, zeros-none, capped-before}
use Rattle.fields.proofs.numerals.zeros.Goals as goal

pub loop-init : goal.loop-init
loop-init c =
    (c.requires, simp sub-zero)

pub loop-preserved : goal.loop-preserved
loop-preserved c =
    let e : c.push-v.result ≡ min cap (10 * c.loop.v + 0) = c.push-v.ensures in
    (omega arith, capped-before cap c.push-v.result (10 * c.loop.v + 0) (replicate (c.args.n - (c.loop.counter + 1)) 48) e ∙ (rw (zeros-more c.loop.v c.loop.counter c.args.n c.loop-test.true) at c.loop.invariant.1))

pub returns : goal.returns
returns c =
    let e = rw (zeros-none c.loop.v c.loop.counter c.args.n c.loop-test.false) at c.loop.invariant.1 in
    let m : min cap c.loop.v ≡ c.loop.v = omega arith in
    sym m ∙ e
