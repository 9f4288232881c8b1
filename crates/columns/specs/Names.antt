-- 01, The card file: "Names are five columns compared byte by byte".
use Rattle.std.specs.Prelude.{ℕ, zero, suc, ◌+◌, ◌*◌, List, [], ◌∷◌, Bool, true, false, cond, ◌&&◌, eqb, Option, Some, None}
use Rattle.columns.specs.Columns.{padded}

-- "compared byte by byte"
unfoldable pub same : List ℕ → List ℕ → Bool
same [] [] = true
same [] (b ∷ bs) = false
same (a ∷ bs) [] = false
same (a ∷ bs) (c ∷ cs) = eqb a c && same bs cs

-- the name at a place, in a row of names of five bytes each
abbrev pub name_at : List ℕ → ℕ → List ℕ
name_at names place = padded 0 names (5 * place) 5

-- the names at place k and the next, n of them
unfoldable pub names_from : List ℕ → ℕ → ℕ → List (List ℕ)
names_from names k zero = []
names_from names k (suc n) = name_at names k ∷ names_from names (k + 1) n

-- where a name stands first in a list of names, which has places k and up
unfoldable pub place_from : List ℕ → List (List ℕ) → ℕ → Option ℕ
place_from name [] k = None
place_from name (n ∷ ns) k = cond (same name n) (Some k) (place_from name ns (k + 1))

-- the place of a name in a list of names, from 0
abbrev pub place_of : List ℕ → List (List ℕ) → Option ℕ
place_of name names = place_from name names 0
