-- `swings::turn_from` meets its contract: searching from the next turn on answers as from the first on. Assumes nothing.
use Rattle.std.proofs.Common.{◌≡◌, ◌∙◌, max, arith}
use borrow.Author.Tests.{le-leb, lt-leb}
use Rattle.swings.proofs.Swings.{turn_more, turn-none}
use Rattle.swings.proofs.turn_from.Goals as goal

pub returns-then-minute-minute_at : goal.returns-then-minute-minute_at
returns-then-minute-minute_at c =
    rw (turn_more c.args.minutes.now c.args.minute c.loop-i.i c.args.count (omega arith), ← c.minute_at.ensures, le-leb _ _ c.if-minute-minute_at.true)
    at c.loop-i.invariant.is

pub loop-i-preserved : goal.loop-i-preserved
loop-i-preserved c =
    record {
      within = omega arith;
      is = rw (turn_more c.args.minutes.now c.args.minute c.loop-i.i c.args.count (omega arith), ← c.minute_at.ensures, lt-leb _ _ c.if-minute-minute_at.false)
          at c.loop-i.invariant.is;
    }

pub returns : goal.returns
returns c =
    let end : max c.args.from c.args.count ≡ c.loop-i.i = omega arith in
    c.max.ensures ∙ end ∙ (rw (turn-none c.args.minutes.now c.args.minute c.loop-i.i c.args.count (omega arith)) at c.loop-i.invariant.is)
