-- Each line leaves the window in the buffer.
use Rattle.std.proofs.Common.{◌≡◌, length}
use Rattle.transcript.specs.inner.Window.{Within}
use Rattle.transcript.proofs.reading.read_records.Given as goal

abbrev pub invariant-loop-k : goal.invariant-loop-k
invariant-loop-k g l = (length l.buffer ≡ length l.initial.buffer) × Within (length l.initial.buffer) l.window
