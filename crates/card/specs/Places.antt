-- 01, The card file, part 4: which main constituent a name stands for.
use Rattle.std.specs.Prelude.{ℕ, ◌+◌, List, [], ◌∷◌, cond, eqb, Option, Some, None}
use Rattle.columns.specs.Names.{place_of}
use Rattle.refusals.specs.Checked.{good, bad, ◌>>=◌}
use Rattle.card.specs.declared.faults.What.TheVariants.{PartName}
use Rattle.card.specs.declared.faults.Trouble.TheVariants.{NotMain}
use Rattle.card.specs.declared.faults.Fault.{Fault}
use Rattle.card.specs.Card.{Card}

-- "5 part not a main", of part j, from 0
abbrev pub not_main : ℕ → Fault
not_main j = record { what = PartName; which = Some (j + 1); trouble = NotMain }

abbrev pub part_found : ℕ → Option ℕ → Card ℕ
part_found j (Some place) = good place
part_found j None = bad (not_main j)

-- where a place stands first among the mains' places, which have positions k and up, for part j
unfoldable pub main_at : ℕ → ℕ → List ℕ → ℕ → Card ℕ
main_at j place [] k = bad (not_main j)
main_at j place (p ∷ ps) k = cond (eqb place p) (good k) (main_at j place ps (k + 1))

-- the main constituent with the name of part j, by its position in part 3, from 0
unfoldable pub main_named : ℕ → List (List ℕ) → List ℕ → List ℕ → Card ℕ
main_named j names mains name = do
  place ← part_found j (place_of name names)
  main_at j place mains 0
