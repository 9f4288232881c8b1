-- `transcript::reading::read_minutes` meets its contract: each line that is read is one more. Assumes nothing.
use Rattle.std.proofs.Common.{refl, rules}
use Rattle.transcript.proofs.reading.Taking.{below_none, taken_more}
use Rattle.transcript.proofs.reading.read_minutes.Goals as goal

pub loop-minute-init : goal.loop-minute-init
loop-minute-init g c =
    (refl, search rules, below_none _)

pub loop-minute-preserved : goal.loop-minute-preserved
loop-minute-preserved g c =
    let taken = rw c.in_ok-minute.was at c.read_line.ensures in
    (search rules, search rules, taken_more _ _ _ _ c.loop-minute.invariant.2 taken.line)
