-- What holds before each call: the clock is one that a clock call made, and the window stands in the buffer.
use Rattle.std.proofs.Common.{◌≡◌, length}
use Rattle.clock.specs.View.{Made}
use Rattle.transcript.specs.inner.Window.{Within}
use Rattle.replay.proofs.run.Given as goal

abbrev pub invariant-loop-call : goal.invariant-loop-call
invariant-loop-call g l =
    (length l.buffer ≡ length l.initial.buffer) × (length l.series ≡ length l.initial.series) × (length l.heights ≡ length l.initial.heights) × Made l.clock × Within (length l.initial.buffer) l.window
