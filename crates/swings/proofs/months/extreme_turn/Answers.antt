-- `swings::months::extreme_turn` meets its contract: the best so far is the extreme of the turns passed. Assumes nothing.
use Rattle.std.proofs.Common.{◌≡◌, ◌∙◌, ◌-◌, arith}
use Rattle.swings.specs.Months.{extreme_turn}
use Rattle.swings.proofs.Extremes.{extreme-next}
use Rattle.swings.proofs.months.extreme_turn.Goals as goal
use Rattle.swings.proofs.months.extreme_turn.Goals.{then-is_beyond, else-is_beyond}

pub loop-i-init : goal.loop-i-init
unfolding extreme_turn
loop-i-init c =
    let none : c.args.from - c.args.from ≡ 0 = omega arith in record { within = omega arith; is = rw none }

pub loop-i-preserved : goal.loop-i-preserved
loop-i-preserved c =
    let next = extreme-next c.args.high c.args.heights.now c.args.from c.loop-i.i (omega arith) c.loop-i.invariant.is c.raised_at.ensures c.raised_at-in-loop-i.ensures c.is_beyond.ensures in record {
      within = omega arith;
      is = elim c.if-is_beyond.branch [
        | then-is_beyond w ↦ w.best-is ∙ (rw w.if-is_beyond.true at next)
        | else-is_beyond w ↦ w.best-is ∙ (rw w.if-is_beyond.false at next)
      ];
    }

pub returns : goal.returns
returns c =
    let all : c.loop-i.i - c.args.from ≡ c.args.to - c.args.from = omega arith in
    rw all at c.loop-i.invariant.is
