-- Only inner contracts cite this: what the code's answers on a shallow-water card stand for in 01's terms.
use Rattle.std.specs.Prelude.{ℕ, List, get_or, ℤ}
use Rattle.table.specs.Table.{Part, Shallow}
use Rattle.table.specs.inner.View.{listed, part_of, shallow_of}
use Rattle.refusals.specs.Checked.{good, ◌>>=◌}
use Rattle.card.specs.Card.{Card}
use Rattle.card_shallows.specs.declared.parts.PartRead.{PartRead}
use Rattle.card_shallows.specs.declared.parts.ShallowRow.{ShallowRow}
use Rattle.card_shallows.specs.declared.shallows.Shallows.{Shallows}

-- a part
abbrev pub part_in : PartRead → Part
part_in p = record { coefficient = p.coefficient; main = p.main }

-- a shallow constituent
abbrev pub made_of : ℕ → List Part → Shallow
made_of place parts = record { place = place; parts = parts }

abbrev pub with_parts : ℕ → Card (List Part) → Card Shallow
with_parts place parts = parts >>= λ ps. good (made_of place ps)

-- the one with these rows, as the table's view reads them
abbrev pub in_rows : List ℕ → List ℤ → Shallow
in_rows card coefficients = made_of (get_or card 0 0) (listed (part_of card coefficients) 0 (get_or card 1 0))

abbrev pub in_row : ShallowRow → Shallow
in_row r = in_rows r.card r.coefficients

-- the shallow constituents read so far
abbrev pub shallows_in : Shallows → List Shallow
shallows_in r = listed (shallow_of r.cards r.coefficients) 0 r.count
