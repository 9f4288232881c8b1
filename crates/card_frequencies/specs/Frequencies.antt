-- 01, The card file, part 1: frequencies.
use Rattle.std.specs.Prelude.{ℕ, ◌+◌, List, [], ◌∷◌, ◌++◌, map, length, nat_abs}
use Rattle.limits.specs.Limits.{most_frequencies}
use Rattle.columns.specs.Columns.{columns}
use Rattle.table.specs.Table.{Frequency}
use Rattle.card.specs.Formats.{frequency_name, frequency_field}
use Rattle.refusals.specs.Checked.{good, ◌>>=◌}
use Rattle.card.specs.declared.faults.Trouble.TheVariants.{TooManyFrequencies, EndedInFrequencies}
use Rattle.card.specs.Card.{Card, number, new_name, Next, next_card, Reading, given, ended, onward_or_end}

-- the names of the frequencies
abbrev pub names_of : List Frequency → List (List ℕ)
names_of = map (λ f. f.name)

-- a frequency card, after cards with these names: name, frequency
unfoldable pub frequency_card : List (List ℕ) → List ℕ → Card Frequency
frequency_card names line = do
  name ← new_name names (columns line frequency_name 5)
  frequency ← number line frequency_field
  good (record { name = name; frequency = nat_abs frequency })

-- "At most 160 frequencies"
unfoldable pub next_frequency : List (List ℕ) → List ℕ → Next Frequency
next_frequency names line = next_card most_frequencies TooManyFrequencies (length names) line (frequency_card names line)

-- the cards from line n on, after the frequencies of those before it; "7 file ends inside a part; place: the line after the last"
unfoldable pub frequencies_from : List (List ℕ) → ℕ → List Frequency → Reading (List Frequency)
frequencies_from [] n before = ended EndedInFrequencies n
frequencies_from (line ∷ lines) n before =
    onward_or_end (next_frequency (names_of before) line) n (given before lines (n + 1))
    (λ f. frequencies_from lines (n + 1) (before ++ (f ∷ [])))
