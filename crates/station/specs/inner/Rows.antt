-- Only inner contracts cite this: the records lent, taken apart into rows.
use Rattle.std.specs.Prelude.{ℕ, List, ◌++◌, map, set, take, replicate}
use Rattle.limits.specs.Limits.{most_records}
use Rattle.station.specs.declared.records.Record.{Record}
use Rattle.station.specs.declared.records.Rows.{Rows}

abbrev pub no_rows : Rows
no_rows = record { places = replicate most_records 0; amplitudes = replicate most_records 0; phases = replicate most_records 0 }

abbrev pub put_row : Rows → ℕ → ℕ → ℕ → ℕ → Rows
put_row rows k place amplitude phase =
    record { places = set rows.places k place; amplitudes = set rows.amplitudes k amplitude; phases = set rows.phases k phase }

-- a row of 146 numbers: the first of these, and 0 behind them
abbrev pub filled : List ℕ → List ℕ
filled numbers = take most_records (numbers ++ replicate most_records 0)

-- the records as they were lent, the first 146
unfoldable pub rows_of : List Record → Rows
rows_of rs = record { places = filled (map (λ r. r.place) rs); amplitudes = filled (map (λ r. r.amplitude) rs); phases = filled (map (λ r. r.phase) rs) }
