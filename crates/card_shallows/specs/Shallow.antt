-- 01, The card file, part 4: a shallow-water card.
use Rattle.std.specs.Prelude.{ℕ, List, [], ◌++◌, length, nat_abs}
use Rattle.limits.specs.Limits.{most_shallows}
use Rattle.columns.specs.Columns.{columns}
use Rattle.table.specs.Table.{Shallow}
use Rattle.card.specs.Formats.{shallow_name, part_count_field}
use Rattle.refusals.specs.Checked.{good, ◌>>=◌}
use Rattle.card.specs.declared.faults.Trouble.TheVariants.{TooManyShallows}
use Rattle.card.specs.Card.{Card, number, new_place, Next, next_card}
use Rattle.card_shallows.specs.Parts.{parts_on}

-- a shallow-water card, after mains and shallow constituents with these places: name, how many parts, the parts
unfoldable pub shallow_card : List (List ℕ) → List ℕ → List ℕ → List ℕ → Card Shallow
shallow_card names mains shallows line = do
  place ← new_place names (mains ++ shallows) (columns line shallow_name 5)
  count ← number line part_count_field
  parts ← parts_on names mains line [] 0 0 (nat_abs count)
  good (record { place = place; parts = parts })

-- "128 shallow"
unfoldable pub next_shallow : List (List ℕ) → List ℕ → List ℕ → List ℕ → Next Shallow
next_shallow names mains shallows line = next_card most_shallows TooManyShallows (length shallows) line (shallow_card names mains shallows line)
