-- Laws of `amplitude_at` over the records of three lists, for a loop: what is left gives the whole. Assumes nothing.
use mathlib.Core.Path.{◌≡◌}
use Prim.Native.Nat.{ℕ, suc, ◌+◌, ◌-◌, ◌≤◌, ◌<◌}
use mathlib.Core.Bool.{cond}
use mathlib.Core.List.{List}
use native.Mathlib.Omega.{arith}
use lib.ListN.{get_or}
use lib.Dec.{eqb}
use Rattle.station.specs.Records.{records_from}
use Rattle.turns.specs.Strides.{amplitude_at}

module _ (places amplitudes lags : List ℕ) (k n place : ℕ) where
  pub amplitude-more : k < n
      → amplitude_at (records_from places amplitudes lags k (n - k)) place
      ≡ cond (eqb (get_or places k 0) place) (get_or amplitudes k 0) (amplitude_at (records_from places amplitudes lags (k + 1) (n - (k + 1))) place)
  unfolding records_from amplitude_at
  amplitude-more h = let e : n - k ≡ suc (n - (k + 1)) = omega arith in rw e

  pub amplitude-none : n ≤ k → amplitude_at (records_from places amplitudes lags k (n - k)) place ≡ 0
  unfolding records_from amplitude_at
  amplitude-none h = let e : n - k ≡ 0 = omega arith in rw e
