-- `card_shallows::coefficients::whole_coefficient` meets its contract. Its tests on the size are the definition's on the number: laws of `Coefficients`.
-- Assumes nothing.
use borrow.Author.Rules.{rules}
use mathlib.Core.Path.{◌≡◌, sym, ap, ◌∙◌}
use Prim.Native.Nat.{◌/◌, ◌%◌, ◌≤◌}
use lib.IntN.{pos, nat_abs}
use lib.Signed.{quot_z}
use mir.Syntax.{w8, w64}
use mir.Val.{SFits}
use mir.ValLaws.{to_z-of_z}
use native.Mathlib.Omega.{arith}
use Rattle.card_shallows.proofs.coefficients.Coefficients.{quot-size, fits-64, fits_8, coefficient-zero, coefficient-broken, coefficient-large, coefficient-good}
use Rattle.card_shallows.proofs.coefficients.whole_coefficient.Goals as goal

pub returns-then-n-eq0 : goal.returns-then-n-eq0
returns-then-n-eq0 c =
    let e = c.size-n.ensures ∙ ap nat_abs (to_z-of_z w64 c.args.hundredths c.ranges.hundredths) in
    rw c.fault_in.ensures (sym (coefficient-zero c.args.f c.args.sizes c.args.hundredths (sym e ∙ c.if-n-eq0.true)))

pub returns-then-n-gt0 : goal.returns-then-n-gt0
returns-then-n-gt0 c =
    let e = c.size-n.ensures ∙ ap nat_abs (to_z-of_z w64 c.args.hundredths c.ranges.hundredths) in
    rw c.fault_in-then-n-gt0.ensures (sym (coefficient-broken c.args.f c.args.sizes c.args.hundredths (rw e at c.if-n-eq0.false) (rw e at c.if-n-gt0.true)))

pub overflow_add-sizes : goal.overflow_add-sizes
overflow_add-sizes c =
    let e : c.size-n.result ≡ nat_abs c.args.hundredths = c.size-n.ensures ∙ ap nat_abs (to_z-of_z w64 c.args.hundredths c.ranges.hundredths) in
    let q : c.size-n.result / 100 ≤ 9 = omega arith in
    search rules

pub returns-then-sizes-n-gt-SIZES : goal.returns-then-sizes-n-gt-SIZES
returns-then-sizes-n-gt-SIZES c =
    let e = c.size-n.ensures ∙ ap nat_abs (to_z-of_z w64 c.args.hundredths c.ranges.hundredths) in
    let exact : nat_abs c.args.hundredths % 100 ≡ 0 = rw (← e) (omega arith) in
    rw c.fault_in-then-sizes-n-gt-SIZES.ensures (sym (coefficient-large c.args.f c.args.sizes c.args.hundredths (rw e at c.if-n-eq0.false) exact (rw e at c.if-sizes-n-gt-SIZES.true)))

pub nonzero_div-result : goal.nonzero_div-result
nonzero_div-result c =
    let e : nat_abs c.args.hundredths / 100 ≤ 9 = omega arith in
    (omega arith, rw (to_z-of_z w64 c.args.hundredths c.ranges.hundredths) (fits-64 (quot_z c.args.hundredths (pos 100)) (rw (quot-size c.args.hundredths 100) (omega arith))))

pub overflow_cast-result : goal.overflow_cast-result
overflow_cast-result c =
    let e : nat_abs c.args.hundredths / 100 ≤ 9 = omega arith in
    let f : SFits w64 (quot_z c.args.hundredths (pos 100)) = fits-64 (quot_z c.args.hundredths (pos 100)) (rw (quot-size c.args.hundredths 100) (omega arith)) in
    rw (to_z-of_z w64 c.args.hundredths c.ranges.hundredths, to_z-of_z w64 (quot_z c.args.hundredths (pos 100)) f) (fits_8 (quot_z c.args.hundredths (pos 100)) (rw (quot-size c.args.hundredths 100) (omega arith)))

pub returns : goal.returns
returns c =
    let e = c.size-n.ensures ∙ ap nat_abs (to_z-of_z w64 c.args.hundredths c.ranges.hundredths) in
    let q : nat_abs c.args.hundredths / 100 ≤ 9 = omega arith in
    let f : SFits w64 (quot_z c.args.hundredths (pos 100)) = fits-64 (quot_z c.args.hundredths (pos 100)) (rw (quot-size c.args.hundredths 100) (omega arith)) in
    let g : SFits w8 (quot_z c.args.hundredths (pos 100)) = fits_8 (quot_z c.args.hundredths (pos 100)) (rw (quot-size c.args.hundredths 100) (omega arith)) in
    let exact : nat_abs c.args.hundredths % 100 ≡ 0 = rw (← e) (omega arith) in
    rw (to_z-of_z w64 c.args.hundredths c.ranges.hundredths, to_z-of_z w64 (quot_z c.args.hundredths (pos 100)) f, to_z-of_z w8 (quot_z c.args.hundredths (pos 100)) g) (sym (coefficient-good c.args.f c.args.sizes c.args.hundredths (rw e at c.if-n-eq0.false) exact (rw e at c.if-sizes-n-gt-SIZES.false)))
