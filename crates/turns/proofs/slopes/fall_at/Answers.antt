-- `turns::slopes::fall_at` meets its contract: the shift is the floor of the two products, and the product fits (`Falls`). Assumes nothing.
use mathlib.Core.Path.{◌∙◌, ap}
use lib.Dec.{lit<}
use lib.IntN.{ℤ, ◌*ℤ◌}
use mir.Syntax.{w32}
use Rattle.angles.proofs.Known.{read, read-narrow, fits, kept, known, says, plus, times}
use Rattle.turns.specs.Slope.{fall}
use Rattle.turns.proofs.slopes.Falls.{term}
use Rattle.turns.proofs.slopes.fall_at.Goals as goal

pub overflow_add-whole : goal.overflow_add-whole
overflow_add-whole c =
    fits (plus (read c.weigh.result c.weigh.ensures.result_bound (lit< tt)) (read c.weigh-2.result c.weigh-2.ensures.result_bound (lit< tt))) (lit< tt)

pub overflow_mul-result : goal.overflow_mul-result
overflow_mul-result c =
    fits (term c.args.frequency c.requires.frequency_le_most_frequency (read c.weigh.result c.weigh.ensures.result_bound (lit< tt)) (read c.weigh-2.result c.weigh-2.ensures.result_bound (lit< tt))) (lit< tt)

pub returns : goal.returns
unfolding fall
returns c =
    let first = known (c.weigh.ensures.value ∙ ((times (read-narrow w32 c.args.p c.ranges.p) (read c.wave-w.result.sine c.wave-w.ensures.cosine_bound.1 (lit< tt))).is ∙ ap (λ (z : ℤ). c.args.p *ℤ z) c.wave-w.ensures.sine_value)) c.weigh.ensures.result_bound in
    let second = known (c.weigh-2.ensures.value ∙ ((times (read-narrow w32 c.args.q c.ranges.q) (read c.wave-w.result.cosine c.wave-w.ensures.cosine_bound.0 (lit< tt))).is ∙ ap (λ (z : ℤ). c.args.q *ℤ z) c.wave-w.ensures.cosine_value)) c.weigh-2.ensures.result_bound in record {
      value = (says (kept (term c.args.frequency c.requires.frequency_le_most_frequency (kept first (lit< tt)) (kept second (lit< tt))) (lit< tt))).0;
      result_bound = (says (kept (term c.args.frequency c.requires.frequency_le_most_frequency (kept first (lit< tt)) (kept second (lit< tt))) (lit< tt))).1;
    }
