-- Forms: text with blanks for at most four numbers, each of which may stand there more than once.
-- Assumes nothing.
use Rattle.std.specs.Prelude.{ℕ, Bool, true, cond, List, eqb, get_or}

-- the blanks are @ $ ~ ^
unfoldable pub is_blank : ℕ → Bool
is_blank byte = cond (eqb byte 64) true (cond (eqb byte 36) true (cond (eqb byte 126) true (eqb byte 94)))

-- for the first number, the second, the third and the fourth; 0 for a number that is not there
unfoldable pub number_for : ℕ → List ℕ → ℕ
number_for byte numbers = get_or numbers (cond (eqb byte 64) 0 (cond (eqb byte 36) 1 (cond (eqb byte 126) 2 3))) 0
