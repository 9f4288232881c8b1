-- The page keeps its length.
use Rattle.std.proofs.Common.{◌≡◌, length}
use Rattle.transcript.proofs.answers.put_each.Given as goal

abbrev pub invariant-loop-height : goal.invariant-loop-height
invariant-loop-height g l = length l.page ≡ length l.initial.page
