-- A prepared month, as the single one of months that follow one another: its height, its slope and what is asked of its rows. By the laws of
-- one month (month_prepared). Assumes nothing.
use mathlib.Core.Path.{◌≡◌, ap}
use native.Mathlib.Omega.{arith}
use lib.ListN.{get_or}
use Rattle.month_prepared.specs.Months.{owner_of}
use Rattle.month_prepared.specs.declared.months.Months.{Months}
use Rattle.month_prepared.specs.inner.Rows.{IsRow, Following, HasRows, last_of, months_in}
use Rattle.month_prepared.proofs.OneMonth.{one_last, one-following, one-row, one-month}
use Rattle.heights.specs.Height.{height_at, height_over}
use Rattle.turns.specs.Slope.{slope_at, slope_over}
use Rattle.clock.specs.View.{Sound, constituents_in}
use Rattle.clock.specs.declared.Clock.{Clock}

module _ (c : Clock) (months : Months) (is : (months.count ≡ c.count) × ((months.many ≡ 1) × (get_or months.lasts 0 0 ≡ c.last)))
    (row : IsRow c.arguments c.ps c.qs) where
  -- its rows are what a search asks for
  pub follows : Sound c → Following months
  follows sound = one-following months is.1.0 (rw is.0 sound.count) (rw is.1.1 sound.last)

  pub has_rows : HasRows months c.arguments c.ps c.qs
  has_rows = one-row months is.1.0 row

  -- its last minute is the last of all
  pub one_end : last_of months ≡ c.last
  one_end = omega (arith, one_last months is.1.0, is.1.1)

  pub one-heights : height_over (months_in c.arguments c.lags c.frequencies c.ps c.qs months) ≡ height_at (constituents_in c)
  unfolding owner_of
  one-heights = rw (← is.0) (ap height_over (one-month months is.1.0 row c.lags c.frequencies))

  pub one-slopes : slope_over (months_in c.arguments c.lags c.frequencies c.ps c.qs months) ≡ slope_at (constituents_in c)
  unfolding owner_of
  one-slopes = rw (← is.0) (ap slope_over (one-month months is.1.0 row c.lags c.frequencies))
