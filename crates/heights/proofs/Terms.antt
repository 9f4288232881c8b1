-- The sum of the shares from a place on: one more while places are left, none at the end. By the definition's clauses.
-- Assumes nothing.
use Prim.Native.Nat.{ℕ, ◌+◌, ◌-◌, ◌≤◌, ◌<◌}
use mathlib.Core.Path.{◌≡◌, refl}
use mathlib.Core.List.{List, []}
use lib.IntN.{ℤ, pos, ◌+ℤ◌}
use lib.ListN.{get_or}
use Rattle.month_prepared.specs.inner.View.{constituents_after}
use Rattle.month_prepared.proofs.Places.{constituents-more, constituents-none}
use Rattle.heights.specs.Angle.{angle}
use Rattle.heights.specs.Share.{share}
use Rattle.heights.specs.Height.{sum_of_shares, height_at}

module _ (arguments lags frequencies : List ℕ) (ps qs : List ℤ) (minute k n : ℕ) where
  pub shares-more : k < n → sum_of_shares (constituents_after arguments lags frequencies ps qs k (n - k)) minute ≡ share (get_or ps k (pos 0)) (get_or qs k (pos 0)) (angle (get_or arguments k 0) (get_or lags k 0) (get_or frequencies k 0) minute) +ℤ sum_of_shares (constituents_after arguments lags frequencies ps qs (k + 1) (n - (k + 1))) minute
  unfolding sum_of_shares
  shares-more h = rw (constituents-more arguments lags frequencies ps qs k n h)

  pub shares-none : n ≤ k → sum_of_shares (constituents_after arguments lags frequencies ps qs k (n - k)) minute ≡ pos 0
  unfolding sum_of_shares
  shares-none h = rw (constituents-none arguments lags frequencies ps qs k n h)

pub empty-height : (minute : ℕ) → height_at [] minute ≡ pos 0
unfolding height_at sum_of_shares
empty-height minute = refl
