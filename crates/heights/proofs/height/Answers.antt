-- `heights::height` meets its contract: the sum so far and the shares that are left give the sum of all. Assumes nothing.
use Prim.Native.Nat.{ℕ, ◌+◌, ◌-◌, ◌*◌, ◌^◌}
use native.Mathlib.Omega.{arith}
use native.Mathlib.Nat.{sub-zero}
use mathlib.Core.Path.{sym, ap, ap₂, ◌∙◌}
use borrow.Author.Rules.{rules}
use lib.Dec.{lit<, lit≤}
use lib.IntN.{ℤ, pos, ◌+ℤ◌, +ℤ_idl, +ℤ_idr, +ℤ_assoc}
use lib.ListN.{get_or}
use mir.Syntax.{w32, w64}
use mir.Val.{SFits, to_z}
use mir.ValLaws.{to_z-of_z}
use Rattle.limits.specs.Limits.{most_records}
use Rattle.angles.specs.Floor.{floor_div}
use Rattle.angles.proofs.Known.{plainly, plus, shifted, kept, fits, says}
use Rattle.month_prepared.specs.inner.View.{constituents_after}
use Rattle.heights.specs.Share.{share}
use Rattle.heights.specs.Height.{sum_of_shares, height_at}
use Rattle.heights.proofs.Terms.{shares-more, shares-none}
use Rattle.heights.proofs.Sums.{one_more}
use Rattle.heights.proofs.height.Goals as goal

pub loop-k-init : goal.loop-k-init
loop-k-init c =
    record { size = omega arith; left = +ℤ_idl _ ∙ ap (λ (n : ℕ). sum_of_shares (constituents_after c.args.lent.arguments.now c.args.lent.lags.now c.args.lent.frequencies.now c.args.lent.ps.now c.args.lent.qs.now 0 n) c.args.minute) (sub-zero c.args.lent.count) }

pub overflow_add-sum : goal.overflow_add-sum
overflow_add-sum c =
    fits (one_more (to_z w64 c.loop-k.sum-bits) c.share_at-sum.result c.loop-k.k (omega arith) c.loop-k.invariant.size c.share_at-sum.ensures.result_bound) (omega arith)

pub loop-k-preserved : goal.loop-k-preserved
loop-k-preserved c =
    let z = to_z w64 c.loop-k.sum-bits in
    let p = get_or c.args.lent.ps.now c.loop-k.k (pos 0) in
    let q = get_or c.args.lent.qs.now c.loop-k.k (pos 0) in
    let fp : SFits w32 p = search rules in
    let fq : SFits w32 q = search rules in
    let left = sum_of_shares (constituents_after c.args.lent.arguments.now c.args.lent.lags.now c.args.lent.frequencies.now c.args.lent.ps.now c.args.lent.qs.now (c.loop-k.k + 1) (c.args.lent.count - (c.loop-k.k + 1))) c.args.minute in
    let more = says (kept (one_more z c.share_at-sum.result c.loop-k.k (omega arith) c.loop-k.invariant.size c.share_at-sum.ensures.result_bound) (omega arith)) in
    let same = c.share_at-sum.ensures.value ∙ (ap₂ (λ (x y : ℤ). share x y c.angle_at-angle.result) (to_z-of_z w32 p fp) (to_z-of_z w32 q fq) ∙ ap (λ (u : ℕ). share p q u) c.angle_at-angle.ensures) in
    let all = shares-more c.args.lent.arguments.now c.args.lent.lags.now c.args.lent.frequencies.now c.args.lent.ps.now c.args.lent.qs.now c.args.minute c.loop-k.k c.args.lent.count (omega arith) in record {
      size = more.1;
      left = ap (λ (y : ℤ). y +ℤ left) more.0
          ∙ (+ℤ_assoc z c.share_at-sum.result left ∙ (ap (λ (y : ℤ). z +ℤ y) (ap (λ (y : ℤ). y +ℤ left) same ∙ sym all) ∙ c.loop-k.invariant.left));
    }

pub overflow_add-result : goal.overflow_add-result
overflow_add-result c =
    let z = to_z w64 c.loop-k.sum-bits in fits (plus (plainly z {A = most_records * 2 ^ 32} (omega arith)) (plainly _ {A = 2_048} (lit≤ tt))) (lit< tt)

pub returns : goal.returns
unfolding height_at
returns c =
    let z = to_z w64 c.loop-k.sum-bits in
    let height = says (kept (shifted (kept (plus (plainly z {A = most_records * 2 ^ 32} (omega arith)) (plainly (pos 2_048) {A = 2_048} (lit≤ tt))) (lit< tt)) 4_096 (2 ^ 28) (lit< tt) (lit≤ tt)) (lit< tt)) in
    let none = shares-none c.args.lent.arguments.now c.args.lent.lags.now c.args.lent.frequencies.now c.args.lent.ps.now c.args.lent.qs.now c.args.minute c.loop-k.k c.args.lent.count (omega arith) in
    let all = sym (ap (λ (y : ℤ). z +ℤ y) none ∙ +ℤ_idr z) ∙ c.loop-k.invariant.left in record {
      value = height.0 ∙ ap (λ (y : ℤ). floor_div (y +ℤ pos 2_048) 4_096) all;
      result_bound = height.1;
    }
