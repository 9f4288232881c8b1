-- Only inner contracts cite this: the range of a pair that refusal 11 leaves.
use Rattle.std.specs.Prelude.{ℕ, ◌^◌, Option, None, Some}
use Rattle.month_satellites.specs.inner.Ranges.{Sized}
use Rattle.month_satellites.specs.declared.satellites.Pair.{Pair}

-- refusal 11: X and Y of a pair
abbrev pub pair_most : ℕ
pair_most = 2 ^ 22

-- A pair that refusal 11 leaves.
abbrev pub Small : Option Pair → Type 0
Small None = Unit
Small (Some p) = Sized pair_most p
