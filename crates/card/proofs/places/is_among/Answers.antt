-- `card::places::is_among` meets its contract. The loop keeps that the place is among the rows left just when it is among all.
use Rattle.limits.specs.Limits.{most_frequencies}
use native.Mathlib.Omega.{arith}
use native.Mathlib.Nat.{sub-zero, mul-le-mul}
use Prim.Native.Nat.{◌≤◌}
use borrow.Author.Tests.{eq-eqb, ne_eqb}
use Rattle.card.proofs.places.Defined.{among-more, among_none}
use Rattle.card.proofs.places.is_among.Goals as goal

pub loop-k-init : goal.loop-k-init
loop-k-init c =
    rw (sub-zero c.args.count)

pub overflow_mul-width : goal.overflow_mul-width
overflow_mul-width c =
    let w : c.args.width ≤ 6 = omega arith in
    let n : c.loop-k.k ≤ most_frequencies = omega arith in
    omega (arith, mul-le-mul w n)

pub returns-then-place-at : goal.returns-then-place-at
returns-then-place-at c =
    rw (among-more c.args.place c.args.width c.args.cards.now c.loop-k.k c.args.count c.loop-k-test.true, ← c.at.ensures, eq-eqb _ _ c.if-place-at.true) at c.loop-k.invariant

pub loop-k-preserved : goal.loop-k-preserved
loop-k-preserved c =
    rw (among-more c.args.place c.args.width c.args.cards.now c.loop-k.k c.args.count c.loop-k-test.true, ← c.at.ensures, ne_eqb _ _ c.if-place-at.false) at c.loop-k.invariant

pub returns : goal.returns
returns c =
    rw (among_none c.args.place c.args.width c.args.cards.now c.loop-k.k c.args.count c.loop-k-test.false) at c.loop-k.invariant
