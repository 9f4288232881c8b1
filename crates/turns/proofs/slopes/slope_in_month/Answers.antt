-- `turns::slopes::slope_in_month` meets its contract: the sum so far and the terms that are left give the sum of all (`Falls`). Assumes nothing.
use Rattle.limits.specs.Limits.{most_records}
use borrow.Author.Rules.{rules}
use Prim.Native.Nat.{ℕ, ◌+◌, ◌-◌, ◌*◌}
use native.Mathlib.Omega.{arith}
use native.Mathlib.Nat.{sub-zero}
use mathlib.Core.Path.{sym, ap, ap₂, ◌∙◌}
use lib.Dec.{lit<}
use lib.IntN.{ℤ, pos, neg_ℤ, ◌+ℤ◌, +ℤ_idl, +ℤ_idr, +ℤ_assoc}
use lib.ListN.{get_or}
use mir.Syntax.{w32, w64}
use mir.Val.{SFits, to_z}
use mir.ValLaws.{to_z-of_z}
use Rattle.angles.proofs.Known.{plainly, fits, kept, says, negated}
use Rattle.month_prepared.specs.inner.View.{constituents_after}
use Rattle.turns.specs.Slope.{fall, falls_at, slope_at}
use Rattle.turns.proofs.slopes.Falls.{most, one-term-more, falls-more, falls-none}
use Rattle.turns.proofs.slopes.slope_in_month.Goals as goal

pub loop-k-init : goal.loop-k-init
loop-k-init c =
    record { size = omega arith; left = +ℤ_idl _ ∙ ap (λ (n : ℕ). falls_at (constituents_after c.args.lent.arguments.now c.args.lent.lags.now c.args.lent.frequencies.now c.args.lent.ps.now c.args.lent.qs.now 0 n) c.args.minute) (sub-zero c.args.lent.count) }

pub fall_at-falls-requires : goal.fall_at-falls-requires
fall_at-falls-requires c =
    record {
      table = c.requires.lent.0.table;
      frequency_le_most_frequency = c.requires.lent.1 c.loop-k.k c.loop-k-test.true;
    }

pub overflow_add-falls : goal.overflow_add-falls
overflow_add-falls c =
    let h = c.loop-k-test.true in
    let n = c.requires.lent.0.count in
    fits (one-term-more (to_z w64 c.loop-k.falls-bits) c.fall_at-falls.result c.loop-k.k (omega arith) c.loop-k.invariant.size c.fall_at-falls.ensures.result_bound) (omega arith)

pub loop-k-preserved : goal.loop-k-preserved
loop-k-preserved c =
    let n = c.requires.lent.0.count in
    let z = to_z w64 c.loop-k.falls-bits in
    let frequency = get_or c.args.lent.frequencies.now c.loop-k.k 0 in
    let p : SFits w32 (get_or c.args.lent.ps.now c.loop-k.k (pos 0)) = search rules in
    let q : SFits w32 (get_or c.args.lent.qs.now c.loop-k.k (pos 0)) = search rules in
    let left = falls_at (constituents_after c.args.lent.arguments.now c.args.lent.lags.now c.args.lent.frequencies.now c.args.lent.ps.now c.args.lent.qs.now (c.loop-k.k + 1) (c.args.lent.count - (c.loop-k.k + 1))) c.args.minute in
    let more = says (kept (one-term-more z c.fall_at-falls.result c.loop-k.k (omega arith) c.loop-k.invariant.size c.fall_at-falls.ensures.result_bound) (omega arith)) in
    let weights = ap₂ (λ (x y : ℤ). fall x y frequency c.angle_at-angle.result) (to_z-of_z w32 (get_or c.args.lent.ps.now c.loop-k.k (pos 0)) p) (to_z-of_z w32 (get_or c.args.lent.qs.now c.loop-k.k (pos 0)) q) in
    let same = c.fall_at-falls.ensures.value ∙ (weights ∙ ap (λ (u : ℕ). fall (get_or c.args.lent.ps.now c.loop-k.k (pos 0)) (get_or c.args.lent.qs.now c.loop-k.k (pos 0)) frequency u) c.angle_at-angle.ensures) in
    let all = falls-more c.args.lent.arguments.now c.args.lent.lags.now c.args.lent.frequencies.now c.args.lent.ps.now c.args.lent.qs.now c.args.minute c.loop-k.k c.args.lent.count c.loop-k-test.true in record {
      size = more.1;
      left = ap (λ (y : ℤ). y +ℤ left) more.0
          ∙ (+ℤ_assoc z c.fall_at-falls.result left ∙ (ap (λ (y : ℤ). z +ℤ y) (ap (λ (y : ℤ). y +ℤ left) same ∙ sym all) ∙ c.loop-k.invariant.left));
    }

pub overflow_sub-result : goal.overflow_sub-result
overflow_sub-result c =
    let z = to_z w64 c.loop-k.falls-bits in
    fits (negated (plainly z {A = most_records * most} (omega arith))) (lit< tt)

pub returns : goal.returns
unfolding slope_at
returns c =
    let z = to_z w64 c.loop-k.falls-bits in
    (kept (negated (plainly z {A = most_records * most} (omega arith))) (lit< tt)).is ∙ ap neg_ℤ (sym (ap (λ (y : ℤ). z +ℤ y) (falls-none c.args.lent.arguments.now c.args.lent.lags.now c.args.lent.frequencies.now c.args.lent.ps.now c.args.lent.qs.now c.args.minute c.loop-k.k c.args.lent.count c.loop-k-test.false) ∙ +ℤ_idr z) ∙ c.loop-k.invariant.left)
