-- Each read leaves the window in the buffer, at the line of its number.
use Rattle.std.proofs.Common.{◌≡◌, length}
use Rattle.transcript.specs.inner.Window.{Within}
use Rattle.transcript.proofs.input.next_line.Given as goal

abbrev pub invariant-loop-turn : goal.invariant-loop-turn
invariant-loop-turn g l =
    (length l.buffer ≡ length l.initial.buffer) × Within (length l.initial.buffer) l.window × (l.window.line ≡ l.initial.window.line)
