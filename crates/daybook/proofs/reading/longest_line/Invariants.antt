use Rattle.std.proofs.Common.{length, max, ◌≡◌}
use Rattle.columns.specs.Lines.{lines_of}
use Rattle.daybook.specs.Bookings.{longest_of}
use Rattle.daybook.proofs.reading.longest_line.Given as goal

abbrev pub invariant-loop-rest : goal.invariant-loop-rest
invariant-loop-rest l = max l.longest (longest_of (lines_of l.rest)) ≡ longest_of (lines_of l.file)

abbrev pub decreases-loop-rest : goal.decreases-loop-rest
decreases-loop-rest l = length l.rest
