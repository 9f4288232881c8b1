-- What holds before each call: the window stands in the buffer.
use Rattle.std.proofs.Common.{◌≡◌, length}
use Rattle.transcript.specs.inner.Window.{Within}
use Rattle.weights.proofs.run.Given as goal

abbrev pub invariant-loop-call : goal.invariant-loop-call
invariant-loop-call g l = (length l.buffer ≡ length l.initial.buffer) × Within (length l.initial.buffer) l.window
