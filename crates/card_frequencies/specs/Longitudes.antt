-- 01, The card file, part 2: "Two cards (5F13.10)", longitudes and their increases.
use Rattle.std.specs.Prelude.{ℕ, ◌+◌, List, [], ◌∷◌, map, nat_abs}
use Rattle.refusals.specs.Checked.{good, ◌>>=◌}
use Rattle.card.specs.declared.faults.Trouble.TheVariants.{EndedInLongitudes}
use Rattle.card.specs.declared.formats.NumberField.{NumberField}
use Rattle.card.specs.Card.{Card, numbers, due_card, Reading, given, ended, onward}

-- a card of five numbers
unfoldable pub five_card : (ℕ → NumberField) → List ℕ → Card (List ℕ)
five_card field line = do
  values ← numbers line field 5
  good (map nat_abs values)

-- such a card on line n
unfoldable pub five_from : (ℕ → NumberField) → List (List ℕ) → ℕ → Reading (List ℕ)
five_from field [] n = ended EndedInLongitudes n
five_from field (line ∷ lines) n = onward (due_card line (five_card field line)) n (λ values. given values lines (n + 1))
