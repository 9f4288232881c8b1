-- The numbers read and those that are left make the numbers asked for.
use Rattle.std.proofs.Common.{◌≡◌, [], ◌-◌, length, take}
use Rattle.script.specs.Words.{numbers_after}
use Rattle.script.specs.inner.Left.{words_from}
use Rattle.script.proofs.words.numbers_at.Given as goal

abbrev pub invariant-loop-number : goal.invariant-loop-number
invariant-loop-number g l =
    (length l.number-items ≡ g.row.N) × (numbers_after (take l.number-index l.number-items) (g.row.N - l.number-index) (words_from l.line l.next) ≡ numbers_after [] g.row.N (words_from l.line l.at))
