-- 01, "The card file": what stands at a place of the table.
use Rattle.std.specs.Prelude.{ℕ, cond, List, [], ◌∷◌, eqb}
use Rattle.table.specs.Table.{Main, Shallow}

-- "Every frequency name needs exactly one definition": the main or the shallow constituent that has a place.
-- (No accepted table leaves one of its places undefined.)
pub data Definition : Type 0 where
  main : Main → Definition
  shallow : Shallow → Definition
  undefined : Definition

-- the first of a list that has the place, or what else there is
unfoldable pub first_with : {A : Type 0} → (A → ℕ) → ℕ → (A → Definition) → Definition → List A → Definition
first_with place_of place found otherwise [] = otherwise
first_with place_of place found otherwise (x ∷ xs) = cond (eqb (place_of x) place) (found x) (first_with place_of place found otherwise xs)

unfoldable pub definition_at : List Main → List Shallow → ℕ → Definition
definition_at mains shallows place =
    first_with (λ m. m.place) place main (first_with (λ s. s.place) place shallow undefined shallows) mains
