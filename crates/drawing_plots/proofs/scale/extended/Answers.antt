-- `drawing_plots::scale::extended` meets its contract: the heights that are left give what all of them give. Assumes nothing.
use Rattle.std.proofs.Common.{◌≡◌, ◌<◌, ◌∙◌, ap, length, arith, rules, pos, get_or}
use lib.Seq.{drop-length}
use mir.Syntax.{w64}
use mir.Val.{SFits}
use mir.ValLaws.{to_z-of_z}
use Rattle.drawing_plots.specs.Heights.{raised, least_of, most_of}
use Rattle.drawing_plots.proofs.scale.Laws.{least_more, most-more}
use Rattle.drawing_plots.proofs.scale.extended.Goals as goal

pub loop-height-preserved : goal.loop-height-preserved
loop-height-preserved c =
    let h : c.loop-height.height-index < length c.args.heights.now = omega arith in
    let f : SFits w64 (get_or c.args.heights.now c.loop-height.height-index (pos 0)) = search rules in
    let r : c.raised.result ≡ raised (get_or c.args.heights.now c.loop-height.height-index (pos 0)) =
    c.raised.ensures.is ∙ ap raised (to_z-of_z w64 (get_or c.args.heights.now c.loop-height.height-index (pos 0)) f) in
    record {
      low = rw (c.widened-all.ensures.0, r, ← least_more c.loop-height.all.low c.args.heights.now c.loop-height.height-index h) c.loop-height.invariant.low;
      high = rw (c.widened-all.ensures.1, r, ← most-more c.loop-height.all.high c.args.heights.now c.loop-height.height-index h) c.loop-height.invariant.high;
    }

pub returns : goal.returns
unfolding least_of most_of
returns c =
    let e : c.loop-height.height-index ≡ length c.args.heights.now = omega arith in
    (rw (e, drop-length c.args.heights.now) at c.loop-height.invariant.low, rw (e, drop-length c.args.heights.now) at c.loop-height.invariant.high)
