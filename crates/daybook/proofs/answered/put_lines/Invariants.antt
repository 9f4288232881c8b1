-- `daybook::answered::put_lines` ends: what is left of the file falls.
use Rattle.std.proofs.Common.{length}
use Rattle.daybook.proofs.answered.put_lines.Given as goal

abbrev pub decreases-loop-rest : goal.decreases-loop-rest
decreases-loop-rest g l = length l.rest
