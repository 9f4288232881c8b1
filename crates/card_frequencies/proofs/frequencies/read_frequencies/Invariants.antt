use mathlib.Core.Path.{◌≡◌}
use mathlib.Core.List.{[]}
use Prim.Native.Nat.{◌+◌, ◌-◌, ◌*◌, ◌≤◌}
use lib.ListN.{length, drop}
use Rattle.columns.specs.Lines.{lines_of}
use Rattle.table.specs.inner.View.{listed, frequency_of}
use Rattle.limits.specs.Limits.{most_frequencies}
use Rattle.card_frequencies.specs.Frequencies.{frequencies_from}
use Rattle.card_frequencies.proofs.frequencies.read_frequencies.Given as goal

abbrev pub invariant-loop-at : goal.invariant-loop-at
invariant-loop-at l = (l.at ≤ length l.file) × (l.n ≤ l.at + 1) × (l.count ≤ most_frequencies) × (length l.names ≡ 5 * most_frequencies) × (length l.speeds ≡ most_frequencies)
    × (frequencies_from (lines_of (drop l.at l.file)) l.n (listed (frequency_of l.names l.speeds) 0 l.count) ≡ frequencies_from (lines_of l.file) 1 [])

abbrev pub decreases-loop-at : goal.decreases-loop-at
decreases-loop-at l = length l.file - l.at
