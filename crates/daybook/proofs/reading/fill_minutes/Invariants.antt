use Rattle.std.proofs.Common.{length, take, ◌+◌, ◌*◌, ◌≡◌, ◌≤◌}
use Rattle.columns.specs.Lines.{lines_of}
use Rattle.daybook.specs.Bookings.{minutes_from, minutes_of}
use Rattle.daybook.proofs.reading.fill_minutes.Given as goal

abbrev pub invariant-loop-rest : goal.invariant-loop-rest
invariant-loop-rest l = record {
  room : 8 * l.count + length l.rest ≤ length l.file;
  places : length l.minutes ≡ length l.initial.minutes;
  left : minutes_from (take l.count l.minutes) (lines_of l.rest) ≡ minutes_of (lines_of l.file);
}

abbrev pub decreases-loop-rest : goal.decreases-loop-rest
decreases-loop-rest l = length l.rest
