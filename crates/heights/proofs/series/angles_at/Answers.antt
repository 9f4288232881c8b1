-- `heights::series::angles_at` meets its contract: the places below k are right. Assumes nothing.
use Prim.Native.Nat.{◌<◌}
use native.Mathlib.Omega.{arith}
use mathlib.Core.Path.{◌∙◌}
use borrow.Author.Rules.{rules}
use borrow.Author.Count.{below_none}
use lib.ListN.{length, get_or, length-set}
use Rattle.heights.specs.Angle.{angle}
use Rattle.heights.proofs.series.Filling.{filled_more}
use Rattle.heights.proofs.series.angles_at.Goals as goal

pub loop-k-init : goal.loop-k-init
loop-k-init c =
    record { room = search rules; right = below_none _ }

pub loop-k-preserved : goal.loop-k-preserved
loop-k-preserved c =
    let l : c.loop-k.k < length c.loop-k.angles = omega arith in
    record {
      room = length-set _ _ _ ∙ c.loop-k.invariant.room;
      right = filled_more 0 c.loop-k.angles c.loop-k.k c.angle_at.result (λ k. angle (get_or c.args.lent.arguments.now k 0) (get_or c.args.lent.lags.now k 0) (get_or c.args.lent.frequencies.now k 0) c.args.minute) l c.loop-k.invariant.right c.angle_at.ensures;
    }

pub returns : goal.returns
returns c =
    λ k h. c.loop-k.invariant.right k (omega arith)
