-- 01, The card file, part 3: a main constituent and its satellite cards.
use Rattle.std.specs.Prelude.{ℕ, List, ◌++◌}
use Rattle.table.specs.Table.{Satellite, Main}
use Rattle.refusals.specs.Checked.{good, ◌>>=◌}
use Rattle.card.specs.Card.{Card}
use Rattle.card_mains.specs.Satellites.{satellite_card}

-- the main with more satellites
unfoldable pub with_more : Main → List Satellite → Main
with_more m more = record { place = m.place; doodson = m.doodson; phase = m.phase; satellites = m.satellites ++ more }

-- the main with the satellites of the next satellite card, where so many are still to come
abbrev pub with_card : Main → ℕ → List ℕ → Card Main
with_card m count line = do
  more ← satellite_card count line
  good (with_more m more)
