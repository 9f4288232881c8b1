-- 01, The card file, part 4: the parts of a shallow-water constituent.
use Rattle.std.specs.Prelude.{ℕ, zero, suc, ◌+◌, List, [], ◌∷◌, ◌++◌, nat_abs}
use Rattle.columns.specs.Columns.{columns}
use Rattle.table.specs.Table.{Part}
use Rattle.refusals.specs.Checked.{good, ◌>>=◌}
use Rattle.card.specs.Formats.{coefficient_field, part_name}
use Rattle.card.specs.Card.{Card, number}
use Rattle.card.specs.Places.{main_named}
use Rattle.card_shallows.specs.Coefficients.{coefficient}

-- part j: a coefficient and a main constituent. The names are those of part 1, the places those of the mains.
unfoldable pub part : List (List ℕ) → List ℕ → ℕ → List ℕ → ℕ → Card Part
part names mains sizes line j = do
  hundredths ← number line (coefficient_field j)
  c ← coefficient (coefficient_field j) sizes hundredths
  main ← main_named j names mains (columns line (part_name j) 5)
  good (record { coefficient = c; main = main })

-- n parts of a card, part j the next, after those left of it, whose sizes add up to `sizes`
unfoldable pub parts_on : List (List ℕ) → List ℕ → List ℕ → List Part → ℕ → ℕ → ℕ → Card (List Part)
parts_on names mains line left sizes j zero = good left
parts_on names mains line left sizes j (suc n) = do
  p ← part names mains sizes line j
  parts_on names mains line (left ++ (p ∷ [])) (sizes + nat_abs p.coefficient) (j + 1) n
