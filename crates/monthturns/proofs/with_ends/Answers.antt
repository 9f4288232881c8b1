-- `monthturns::with_ends` meets its contract: each turn is put behind those that are there. Assumes nothing.
use native.Mathlib.Omega.{arith}
use Rattle.monthturns.proofs.Kept.{kept-fewer, kept_on}
use Rattle.monthturns.proofs.with_ends.Goals as goal

pub returns : goal.returns
returns c =
    record {
      count_le_count = (omega (arith, c.with_turn-a.ensures.count_le_count, c.with_turn-b.ensures.count_le_count, c.with_turn.ensures.count_le_count), omega (arith, c.with_turn-a.ensures.count_le_count, c.with_turn-b.ensures.count_le_count, c.with_turn.ensures.count_le_count));
      kept = kept_on c.with_turn-a.ensures.kept (kept_on (kept-fewer c.args.known.count (omega (arith, c.with_turn-a.ensures.count_le_count)) c.with_turn-b.ensures.kept) (kept-fewer c.args.known.count (omega (arith, c.with_turn-a.ensures.count_le_count, c.with_turn-b.ensures.count_le_count)) c.with_turn.ensures.kept));
    }
