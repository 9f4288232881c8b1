-- The names that a clock hands out: those of its table's frequencies, by place. No call of 01: it gives nothing of the tide.
use Rattle.std.specs.Prelude.{ℕ, List, [], map}
use Rattle.table.specs.Table.{Table, Frequency}
use Rattle.calls.specs.State.{Maybe, none, some, State}

-- the names of a table that is there or not
abbrev pub names_there : Maybe Table → List (List ℕ)
names_there none = []
names_there (some table) = map (λ (f : Frequency). f.name) table.frequencies

-- the names in a state
abbrev pub names_in : State → List (List ℕ)
names_in state = names_there state.table
