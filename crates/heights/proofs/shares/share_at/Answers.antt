-- `heights::shares::share_at` meets its contract: the shift is the floor of the two products' difference. Assumes nothing.
use Prim.Native.Nat.{◌^◌}
use mathlib.Core.Path.{ap, ◌∙◌}
use lib.Dec.{lit<, lit≤}
use lib.IntN.{ℤ, ◌*ℤ◌}
use mir.Syntax.{w32}
use Rattle.angles.proofs.Known.{known, read, read-narrow, times, minus, shifted, kept, fits, says}
use Rattle.heights.specs.Share.{share}
use Rattle.heights.proofs.shares.share_at.Goals as goal

pub overflow_sub-result : goal.overflow_sub-result
overflow_sub-result c =
    fits (minus (read c.weigh.result c.weigh.ensures.result_bound (lit< tt)) (read c.weigh-2.result c.weigh-2.ensures.result_bound (lit< tt))) (lit< tt)

pub returns : goal.returns
unfolding share
returns c =
    let first = known (c.weigh.ensures.value ∙ ((times (read-narrow w32 c.args.p c.ranges.p) (read c.wave-w.result.cosine c.wave-w.ensures.cosine_bound.0 (lit< tt))).is ∙ ap (λ (z : ℤ). c.args.p *ℤ z) c.wave-w.ensures.cosine_value)) c.weigh.ensures.result_bound in
    let second = known (c.weigh-2.ensures.value ∙ ((times (read-narrow w32 c.args.q c.ranges.q) (read c.wave-w.result.sine c.wave-w.ensures.cosine_bound.1 (lit< tt))).is ∙ ap (λ (z : ℤ). c.args.q *ℤ z) c.wave-w.ensures.sine_value)) c.weigh-2.ensures.result_bound in record {
      value = (says (kept (shifted (kept (minus (kept first (lit< tt)) (kept second (lit< tt))) (lit< tt)) (2 ^ 30) (2 ^ 32) (lit< tt) (lit≤ tt)) (lit< tt))).0;
      result_bound = (says (kept (shifted (kept (minus (kept first (lit< tt)) (kept second (lit< tt))) (lit< tt)) (2 ^ 30) (2 ^ 32) (lit< tt) (lit≤ tt)) (lit< tt))).1;
    }
