use Prim.Native.Nat.{ℕ, ◌-◌, ◌*◌, ◌^◌, ◌≤◌}
use mathlib.Core.Path.{◌≡◌}
use mathlib.Core.List.{List}
use lib.IntN.{ℤ, nat_abs, ◌+ℤ◌}
use Rattle.month_prepared.specs.inner.View.{constituents_after, constituents_from}
use Rattle.heights.specs.Height.{sum_of_shares}
use Rattle.heights.specs.inner.Angles.{Angles}
use Rattle.heights.proofs.series.height_of.Given as goal

-- before place k: the sum so far, of k shares, and the shares left give the sum of all
pub record Summing (angles : List ℕ) (ps qs : List ℤ) (count : ℕ) (sum : ℤ) (k : ℕ) : Type 0 where
  pub size : nat_abs sum ≤ k * 2 ^ 32
  pub left : (arguments lags frequencies : List ℕ) (minute : ℕ) → Angles arguments lags frequencies count minute angles → sum +ℤ sum_of_shares (constituents_after arguments lags frequencies ps qs k (count - k)) minute ≡ sum_of_shares (constituents_from arguments lags frequencies ps qs count) minute

abbrev pub invariant-loop-k : goal.invariant-loop-k
invariant-loop-k l = Summing l.angles l.ps l.qs l.count l.sum l.k
