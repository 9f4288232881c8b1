-- Each line leaves the window in the buffer, one line further.
use Rattle.std.proofs.Common.{◌≡◌, length}
use Rattle.transcript.specs.inner.Window.{Within, lines_below}
use Rattle.transcript.proofs.reading.read_minutes.Given as goal

abbrev pub invariant-loop-minute : goal.invariant-loop-minute
invariant-loop-minute g l =
    (length l.buffer ≡ length l.initial.buffer) × Within (length l.initial.buffer) l.window × (l.window.line ≡ lines_below l.initial.window.line l.minute-index)
