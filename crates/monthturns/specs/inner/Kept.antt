-- Only inner contracts cite this: what happens to the first turns of two lent rows when others are put behind them. Assumes nothing.
use Rattle.std.specs.Prelude.{ℕ, List, ◌≡◌, ℤ, take}

-- both rows keep their first entries, as many as are said
pub record Kept (count : ℕ) (minutes minutes_left : List ℕ) (heights heights_left : List ℤ) : Type 0 where
  pub minutes_kept : take count minutes_left ≡ take count minutes
  pub heights_kept : take count heights_left ≡ take count heights
