-- What the table's struct counts of its document's table. Rests on the laws of rows. Assumes nothing.
use mathlib.Core.Path.{◌≡◌}
use lib.ListN.{length}
use Rattle.table.specs.inner.View.{table_of, frequency_of}
use Rattle.table.specs.declared.Table.{Table}
use Rattle.table.proofs.Rows.{listed-length}

-- as many frequencies as the struct counts
pub frequencies-count : (t : Table) → length (table_of t).frequencies ≡ t.frequencies
unfolding table_of
frequencies-count t = listed-length (frequency_of t.names t.speeds) 0 t.frequencies
