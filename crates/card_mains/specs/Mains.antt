-- 01, The card file, part 3: a constituent card.
use Rattle.std.specs.Prelude.{ℕ, ◌+◌, List, [], ◌∷◌, map, cond, ltb, length, ℤ, nat_abs}
use Rattle.limits.specs.Limits.{most_mains, most_satellites}
use Rattle.columns.specs.Columns.{columns}
use Rattle.table.specs.Table.{Main}
use Rattle.card.specs.Formats.{main_name, doodson_field, main_phase_field, satellite_count_field}
use Rattle.refusals.specs.Checked.{good, bad, ◌>>=◌}
use Rattle.card.specs.declared.faults.What.TheVariants as what
use Rattle.card.specs.declared.faults.Trouble.TheVariants.{TooManyMains, TooManySatellites}
use Rattle.card.specs.Faults.{only}
use Rattle.card.specs.Card.{Card, number, numbers, new_place, Next, next_card}

-- the places that mains define
abbrev pub main_places : List Main → List ℕ
main_places = map (λ m. m.place)

-- "256 satellites": those of all mains together
unfoldable pub satellites_in : List Main → ℕ
satellites_in [] = 0
satellites_in (m ∷ ms) = length m.satellites + satellites_in ms

-- what a constituent card gives: the main constituent, with no satellite yet, and how many are to come
pub record MainCard : Type 0 where
  pub main : Main
  pub count : ℕ

-- the main with these numbers, after so many satellites in all: "a satellite count that passes 256 in all is 6 after its own 3"
unfoldable pub main_made : ℕ → List ℤ → ℤ → ℤ → ℕ → Card MainCard
main_made place doodson phase count satellites =
    cond (ltb most_satellites (satellites + nat_abs count)) (bad (only what.Card TooManySatellites))
    (good (record { main = record { place = place; doodson = doodson; phase = phase; satellites = [] }; count = nat_abs count }))

-- the numbers of a constituent card: six Doodson numbers; phase; satellite count
unfoldable pub main_numbers : ℕ → ℕ → List ℕ → Card MainCard
main_numbers place satellites line = do
  doodson ← numbers line doodson_field 6
  phase ← number line main_phase_field
  count ← number line satellite_count_field
  main_made place doodson phase count satellites

-- a constituent card, after mains with these places and so many satellites in all: name, and the numbers. The names are those of part 1.
unfoldable pub main_card : List (List ℕ) → List ℕ → ℕ → List ℕ → Card MainCard
main_card names places satellites line = do
  place ← new_place names places (columns line main_name 5)
  main_numbers place satellites line

-- "64 mains"
unfoldable pub next_main : List (List ℕ) → List ℕ → ℕ → List ℕ → Next MainCard
next_main names places satellites line = next_card most_mains TooManyMains (length places) line (main_card names places satellites line)
