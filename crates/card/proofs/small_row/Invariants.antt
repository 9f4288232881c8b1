use mathlib.Core.Path.{◌≡◌}
use Prim.Native.Nat.{◌-◌, ◌≤◌}
use lib.ListN.{length, take}
use Rattle.card.specs.Formats.{row_field}
use Rattle.card.specs.Card.{numbers_from, numbers}
use Rattle.card.proofs.small_row.Given as goal

abbrev pub invariant-loop-k : goal.invariant-loop-k
invariant-loop-k l = (l.k ≤ l.count) × (length l.values ≡ 6) × (numbers_from l.line (row_field l.row) (take l.k l.values) l.k (l.count - l.k) ≡ numbers l.line (row_field l.row) l.count)
