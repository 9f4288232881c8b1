-- 01, 4: "twice in parts 3 and 4 together; place repeated"; 5: "frequency without definition".
-- Assumes nothing.
use Rattle.std.specs.Prelude.{ℕ, List, [], ◌∷◌, Bool, false, ◌||◌, eqb}

-- whether a place stands among others
unfoldable pub is_among : ℕ → List ℕ → Bool
is_among place [] = false
is_among place (p ∷ ps) = eqb place p || is_among place ps
