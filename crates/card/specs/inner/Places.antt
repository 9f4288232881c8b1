-- Only inner contracts cite this: what the code's answers on places stand for in 01's terms.
use Rattle.std.specs.Prelude.{ℕ, ◌*◌, List, get_or}
use Rattle.table.specs.inner.View.{listed}

-- the places in the rows of cards that the table keeps: each row begins with its place
abbrev pub places_in : ℕ → List ℕ → ℕ → List ℕ
places_in width cards count = listed (λ k. get_or cards (width * k) 0) 0 count
