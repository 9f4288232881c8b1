-- The path keeps its length, and the next place stays on it.
use Rattle.std.proofs.Common.{length, ◌≡◌, ◌≤◌}
use Rattle.files.proofs.put_text.Given as goal

abbrev pub invariant-loop-byte : goal.invariant-loop-byte
invariant-loop-byte l =
    (length l.path ≡ length l.initial.path) × (l.at ≤ length l.initial.path → l.next ≤ length l.initial.path)
