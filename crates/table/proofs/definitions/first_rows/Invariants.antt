use mathlib.Core.Path.{◌≡◌}
use lib.ListN.{length}
use Rattle.table.specs.inner.Found.{place_in}
use Rattle.table.proofs.definitions.FirstRows.{From}
use Rattle.table.proofs.definitions.first_rows.Given as goal

abbrev pub invariant-loop-row : goal.invariant-loop-row
invariant-loop-row l = (length l.first ≡ 256) × From (place_in l.width l.cards) l.rows l.row l.first
