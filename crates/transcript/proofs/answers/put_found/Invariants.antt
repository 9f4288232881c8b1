-- The page keeps its length.
use Rattle.std.proofs.Common.{◌≡◌, length}
use Rattle.transcript.proofs.answers.put_found.Given as goal

abbrev pub invariant-loop-i : goal.invariant-loop-i
invariant-loop-i g l = length l.page ≡ length l.initial.page
