use Rattle.card_file.proofs.counts.Counting.{satellites_from}
use Rattle.card_mains.specs.Mains.{satellites_in}
use Rattle.table.specs.inner.View.{table_of}
use Prim.Native.Nat.{◌+◌, ◌*◌, ◌≤◌}
use mathlib.Core.Path.{◌≡◌}
use Rattle.card_file.proofs.counts.satellites_of.Given as goal

abbrev pub invariant-loop-k : goal.invariant-loop-k
invariant-loop-k l = (l.total + satellites_from l.table l.k ≡ satellites_in (table_of l.table).mains) × (l.total ≤ 65_535 * l.k)
