-- A line of a text. Assumes nothing.
use Rattle.std.specs.Prelude.{ℕ, zero, suc, List, [], ◌∷◌}

-- line n of some lines, from 0; empty past the last
unfoldable pub line_at : List (List ℕ) → ℕ → List ℕ
line_at [] n = []
line_at (line ∷ lines) zero = line
line_at (line ∷ lines) (suc n) = line_at lines n
