-- `messages::textlines::line_of` meets its contract: what is left of the text has the line that is left to reach. Assumes nothing.
use Rattle.std.proofs.Common.{◌≡◌, ◌-◌}
use Rattle.columns.specs.Lines.{lines_of}
use Rattle.messages.specs.Lines.{line_at}
use Rattle.messages.proofs.textlines.line_of.Given as goal

abbrev pub invariant-loop-passed : goal.invariant-loop-passed
invariant-loop-passed l = line_at (lines_of l.rest) (l.n - l._passed) ≡ line_at (lines_of l.text) l.n
