-- `heights::series::move_on` meets its contract: the places below k are moved on, the others are as they were. Assumes nothing.
use Prim.Native.Nat.{ℕ, ◌+◌, ◌%◌, ◌<◌}
use native.Mathlib.Omega.{arith}
use mathlib.Core.Path.{refl, ap, ◌∙◌}
use lib.ListN.{length, get_or, length-set}
use borrow.Author.Count.{below_none}
use Rattle.angles.specs.Ticks.{turn}
use Rattle.heights.proofs.series.Filling.{filled_more, unreached}
use Rattle.heights.proofs.series.move_on.Goals as goal

pub loop-k-init : goal.loop-k-init
loop-k-init c =
    record { room = c.requires.0; moved = below_none _; others = λ j h. refl }

pub sum_of-requires : goal.sum_of-requires
sum_of-requires c =
    (omega (arith, c.loop-k.invariant.others c.loop-k.k (omega arith), c.requires.1.1.0 c.loop-k.k (omega arith)), c.requires.1.1.1 c.loop-k.k (omega arith))

pub loop-k-preserved : goal.loop-k-preserved
loop-k-preserved c =
    let l : c.loop-k.k < length c.loop-k.angles = omega arith in
    let e = c.sum_of.ensures ∙ ap (λ (n : ℕ). (n + get_or c.args.ticks.now c.loop-k.k 0) % turn) (c.loop-k.invariant.others c.loop-k.k (omega arith)) in
    record {
      room = length-set c.loop-k.angles c.loop-k.k c.sum_of.result ∙ c.loop-k.invariant.room;
      moved = filled_more 0 c.loop-k.angles c.loop-k.k c.sum_of.result (λ j. (get_or c.args.angles.now j 0 + get_or c.args.ticks.now j 0) % turn) l c.loop-k.invariant.moved e;
      others = unreached 0 c.loop-k.angles c.loop-k.k c.sum_of.result (λ j. get_or c.args.angles.now j 0) c.loop-k.invariant.others;
    }

pub returns : goal.returns
returns c =
    record {
      angles_len = c.loop-k.invariant.room;
      moved_on = λ k h. c.loop-k.invariant.moved k (omega arith);
    }
