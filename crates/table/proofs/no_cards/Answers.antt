-- `table::no_cards` meets its contract: every count is 0, so the view computes to the table with no entry.
use mathlib.Core.Path.{refl}
use Rattle.table.specs.Table.{no_cards}
use Rattle.table.specs.inner.View.{table_of, listed}
use Rattle.table.proofs.no_cards.Goals as goal

pub returns : goal.returns
unfolding table_of listed no_cards
returns c =
    refl
