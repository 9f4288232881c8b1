-- 01, The card file, part 3: a satellite on its card.
use Rattle.std.specs.Prelude.{ℕ, List, nat_abs}
use Rattle.columns.specs.Columns.{column}
use Rattle.table.specs.Table.{mark_of, Satellite}
use Rattle.card.specs.Formats.{difference_field, satellite_phase_field, ratio_field, mark_column}
use Rattle.refusals.specs.Checked.{good, ◌>>=◌}
use Rattle.card.specs.Card.{Card, number, numbers}

-- satellite j of a card, from 0: three differences; phase; ratio; latitude mark
unfoldable pub satellite : List ℕ → ℕ → Card Satellite
satellite line j = do
  differences ← numbers line (difference_field j) 3
  phase ← number line (satellite_phase_field j)
  ratio ← number line (ratio_field j)
  good (record { differences = differences; phase = phase; ratio = nat_abs ratio; mark = mark_of (column line (mark_column j)) })
