-- Only inner contracts cite this: what the code's answers on part 1 stand for in 01's terms.
use Rattle.std.specs.Prelude.{ℕ, List}
use Rattle.columns.specs.Columns.{columns}
use Rattle.table.specs.Table.{Frequency}
use Rattle.card.specs.Formats.{frequency_name}

-- a frequency that was read on a card, whose name is on its line
abbrev pub frequency_on : List ℕ → ℕ → Frequency
frequency_on line f = record { name = columns line frequency_name 5; frequency = f }
