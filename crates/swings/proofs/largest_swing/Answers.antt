-- `swings::largest_swing` meets its contract: the most so far is the largest swing of the turns passed. Assumes nothing.
use Rattle.std.proofs.Common.{◌≡◌, ◌-◌, arith}
use Rattle.swings.specs.Swings.{largest_swing}
use Rattle.swings.proofs.Swings.{largest-more}
use Rattle.swings.proofs.largest_swing.Goals as goal

pub loop-i-init : goal.loop-i-init
unfolding largest_swing
loop-i-init c =
    let none : c.args.from - c.args.from ≡ 0 = omega arith in record { within = omega arith; is = rw none; small = omega arith }

pub loop-i-preserved : goal.loop-i-preserved
loop-i-preserved c =
    record {
      within = omega arith;
      is = rw (largest-more c.args.heights.now c.args.count c.args.from c.loop-i.i (omega arith), ← c.loop-i.invariant.is, ← c.swing.ensures.is) c.max-most.ensures;
      small = omega (arith, c.max-most.ensures, c.swing.ensures.small);
    }

pub returns-clause-is : goal.returns-clause-is
returns-clause-is c =
    let all : c.loop-i.i - c.args.from ≡ c.args.to - c.args.from = omega arith in
    rw all at c.loop-i.invariant.is
