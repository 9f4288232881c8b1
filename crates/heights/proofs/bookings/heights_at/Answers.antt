-- `heights::bookings::heights_at` meets its contract: the heights before place n stand at their places. Assumes nothing.
use native.Mathlib.Omega.{arith}
use mathlib.Core.Path.{◌∙◌}
use lib.Dec.{lit<}
use lib.IntN.{pos}
use lib.ListN.{get_or}
use Rattle.angles.proofs.Known.{read}
use Rattle.heights.specs.Height.{height_at}
use Rattle.heights.specs.inner.Lent.{constituents_lent}
use Rattle.heights.proofs.series.Filling.{filled_more}
use Rattle.heights.proofs.bookings.Listed.{listed}
use Rattle.heights.proofs.bookings.heights_at.Goals as goal

pub height-requires : goal.height-requires
height-requires c =
    record { lent = c.requires.lent; minute_bound = c.requires.all_within.0 c.loop-n.n (omega arith) }

pub loop-n-preserved : goal.loop-n-preserved
loop-n-preserved c =
    let height = height_at (constituents_lent c.args.lent) in
    filled_more (pos 0) c.loop-n.out c.loop-n.n _ (λ k. height (get_or c.args.minutes.now k 0)) (omega arith) c.loop-n.invariant ((read c.height.result c.height.ensures.result_bound (lit< tt)).is ∙ c.height.ensures.value)

pub returns : goal.returns
returns c =
    let height = height_at (constituents_lent c.args.lent) in
    listed height c.args.minutes.now c.loop-n.out (omega arith) (λ k h. c.loop-n.invariant k (omega arith))
