-- `heights::series::advances` meets its contract: the places below k are right. Assumes nothing.
use Prim.Native.Nat.{◌*◌, ◌%◌, ◌<◌}
use native.Mathlib.Omega.{arith}
use mathlib.Core.Path.{◌∙◌}
use borrow.Author.Rules.{rules}
use borrow.Author.Count.{below_none}
use lib.ListN.{length, get_or, length-set}
use Rattle.angles.specs.Ticks.{turn}
use Rattle.heights.proofs.series.Filling.{filled_more}
use Rattle.heights.proofs.series.advances.Goals as goal

pub loop-k-init : goal.loop-k-init
loop-k-init c =
    record { room = search rules; right = below_none _ }

pub loop-k-preserved : goal.loop-k-preserved
loop-k-preserved c =
    let l : c.loop-k.k < length c.loop-k.ticks = omega arith in
    record {
      room = length-set _ _ _ ∙ c.loop-k.invariant.room;
      right = filled_more 0 c.loop-k.ticks c.loop-k.k c.advance.result (λ k. 1_314 * get_or c.args.frequencies.now k 0 * c.args.step % turn) l c.loop-k.invariant.right c.advance.ensures;
    }

pub returns : goal.returns
returns c =
    λ k h. c.loop-k.invariant.right k (omega arith)
