-- 01, The card file, part 3: a satellite card.
use Rattle.std.specs.Prelude.{ℕ, zero, suc, ◌+◌, min, List, [], ◌∷◌, ◌++◌}
use Rattle.limits.specs.Limits.{satellites_a_card}
use Rattle.table.specs.Table.{Satellite}
use Rattle.refusals.specs.Checked.{good, ◌>>=◌}
use Rattle.card.specs.Card.{Card, due_card}
use Rattle.card_mains.specs.Satellite.{satellite}

-- n satellites of a card, satellite j the next, after those left of it
unfoldable pub satellites_on : List ℕ → List Satellite → ℕ → ℕ → Card (List Satellite)
satellites_on line left j zero = good left
satellites_on line left j (suc n) = do
  s ← satellite line j
  satellites_on line (left ++ (s ∷ [])) (j + 1) n

-- "Satellites stand three a card": the card where so many are still to come
unfoldable pub satellite_card : ℕ → List ℕ → Card (List Satellite)
satellite_card count line = due_card line (satellites_on line [] 0 (min count satellites_a_card))
