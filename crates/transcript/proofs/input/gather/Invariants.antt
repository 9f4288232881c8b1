-- Each read leaves the window in the buffer.
use Rattle.std.proofs.Common.{◌≡◌, length}
use Rattle.transcript.specs.inner.Window.{Within}
use Rattle.transcript.proofs.input.gather.Given as goal

abbrev pub invariant-loop-turn : goal.invariant-loop-turn
invariant-loop-turn g l = (length l.buffer ≡ length l.initial.buffer) × Within (length l.initial.buffer) l.window
