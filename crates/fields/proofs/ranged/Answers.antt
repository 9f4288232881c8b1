-- `fields::ranged` meets its contract. A size from the cap on is outside the range, a smaller one is made a signed number: laws of `Ranges`. Assumes nothing.
use native.Mathlib.Omega.{arith}
use mathlib.Core.Path.{◌≡◌, sym}
use Prim.Native.Nat.{suc, ◌-◌, ◌<◌}
use lib.IntN.{negsuc, ◌-ℤ◌}
use mir.Syntax.{w64}
use mir.Val.{to_z}
use mir.ValLaws.{to_z-of_z}
use Rattle.fields.proofs.Ranges.{out_below, out-above, small_pos, minus_is, minus-fits}
use Rattle.fields.proofs.ranged.Goals as goal

pub returns-then-size-eq0 : goal.returns-then-size-eq0
returns-then-size-eq0 c =
    rw (c.if-negative.true, c.if-size-eq0.true) (simp (to_z-of_z w64 c.args.low c.ranges.low, to_z-of_z w64 c.args.high c.ranges.high) at c.within.ensures)

pub returns-then-size-ge-CAP : goal.returns-then-size-ge-CAP
returns-then-size-ge-CAP c =
    rw c.if-negative.true (sym (out_below c.args.low c.args.high c.ranges.low c.ranges.high c.args.size c.if-size-ge-CAP.true))

pub overflow_sub-less-then-negative : goal.overflow_sub-less-then-negative
overflow_sub-less-then-negative c =
    minus-fits (c.args.size - 1) (omega arith)

pub returns-then-negative : goal.returns-then-negative
returns-then-negative c =
    let m = c.args.size - 1 in
    let h : m < 9223372036854775808 = omega arith in
    let e : c.args.size ≡ suc m = omega arith in
    let r = rw (to_z-of_z w64 (negsuc 0 -ℤ to_z w64 m) (minus-fits m h), minus_is m h) at c.within-then-negative.ensures in
    rw (c.if-negative.true, e) (simp (to_z-of_z w64 c.args.low c.ranges.low, to_z-of_z w64 c.args.high c.ranges.high) at r)

pub returns-then-size : goal.returns-then-size
returns-then-size c =
    rw c.if-negative.false (sym (out-above c.args.low c.args.high c.ranges.low c.ranges.high c.args.size c.if-size.true))

pub returns : goal.returns
returns c =
    let h : c.args.size < 9223372036854775808 = omega arith in
    rw c.if-negative.false (simp (small_pos c.args.size h, to_z-of_z w64 c.args.low c.ranges.low, to_z-of_z w64 c.args.high c.ranges.high) at c.within-2.ensures)
