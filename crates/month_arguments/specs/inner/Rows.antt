-- Only inner contracts cite this: V of a row of the code's table, and V of the mains that are kept.
use Rattle.std.specs.Prelude.{ℕ, ◌*◌, List, ℤ, pos, nat_abs, get_or, take}
use Rattle.limits.specs.Limits.{most_mains}
use Rattle.table.specs.inner.View.{listed, integers}
use Rattle.month_arguments.specs.Longitudes.{Longitudes}
use Rattle.month_arguments.specs.Arguments.{argument}

-- V of the main in row k: six Doodson numbers and the phase
unfoldable pub row_argument : Longitudes → List ℤ → ℕ → ℕ
row_argument l angles k = argument l (take 6 (integers 7 angles k)) (get_or (integers 7 angles k) 6 (pos 0))

-- V of the 64 mains that are kept, each in a row of its V, X and Y
abbrev pub arguments_in : List ℤ → List ℕ
arguments_in kept = listed (λ k. nat_abs (get_or kept (3 * k) (pos 0))) 0 most_mains
