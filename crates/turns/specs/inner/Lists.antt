-- Only inner contracts cite this: the slopes and the heights of the constituents and the months that are lent.
use Rattle.std.specs.Prelude.{ℕ, ℤ}
use Rattle.heights.specs.Height.{height_over}
use Rattle.heights.specs.inner.Lent.{constituents_lent, months_lent, AreLent}
use Rattle.heights.specs.declared.Lent.{Lent}
use Rattle.heights.specs.declared.months.LentMonths.{LentMonths}
use Rattle.month_prepared.specs.inner.Rows.{InRange}
use Rattle.turns.specs.Slope.{slope_at, slope_over}

-- the slope of the constituents of a month
abbrev pub slope_of : Lent → ℕ → ℤ
slope_of l = slope_at (constituents_lent l)

-- the slope and the height in months that follow one another
abbrev pub slopes_in : LentMonths → ℕ → ℤ
slopes_in l = slope_over (months_lent l)

abbrev pub heights_in : LentMonths → ℕ → ℤ
heights_in l = height_over (months_lent l)

-- what is asked of all that is lent to a search
pub record Rows (l : LentMonths) : Type 0 where
  pub lent : AreLent l
  pub frequencies : InRange l.months.count l.frequencies.now
