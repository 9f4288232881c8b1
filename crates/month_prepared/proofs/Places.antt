-- The constituents from a place on: one more while places are left, none at the end, as many as asked for. By the definition's two clauses.
use Prim.Native.Nat.{ℕ, zero, suc, ◌+◌, ◌-◌, ◌≤◌, ◌<◌, min}
use mathlib.Core.Path.{◌≡◌, refl, ap}
use mathlib.Core.List.{List, [], ◌∷◌}
use lib.IntN.{ℤ}
use lib.ListN.{length}
use native.Mathlib.Omega.{arith}
use Rattle.limits.specs.Limits.{most_records}
use Rattle.month_prepared.specs.inner.View.{constituent_at, constituents_after, constituents_from, constituents_of}
use Rattle.month_prepared.specs.declared.Month.{Month}

module _ (arguments lags frequencies : List ℕ) (ps qs : List ℤ) where
  pub constituents-more : (k n : ℕ) → k < n → constituents_after arguments lags frequencies ps qs k (n - k) ≡ constituent_at arguments lags frequencies ps qs k ∷ constituents_after arguments lags frequencies ps qs (k + 1) (n - (k + 1))
  unfolding constituents_after
  constituents-more k n h = let e : n - k ≡ suc (n - (k + 1)) = omega arith in rw e

  pub constituents-none : (k n : ℕ) → n ≤ k → constituents_after arguments lags frequencies ps qs k (n - k) ≡ []
  unfolding constituents_after
  constituents-none k n h = let e : n - k ≡ 0 = omega arith in rw e

  pub constituents-length : (k n : ℕ) → length (constituents_after arguments lags frequencies ps qs k n) ≡ n
  unfolding constituents_after
  constituents-length k zero = refl
  constituents-length k (suc n) = ap suc (constituents-length (k + 1) n)

-- a month whose count is within its room holds that many
pub constituents-of : (m : Month) → m.count ≤ most_records → constituents_of m ≡ constituents_from m.arguments m.lags m.frequencies m.ps m.qs m.count
constituents-of m h = let e : min m.count most_records ≡ m.count = omega arith in rw e
