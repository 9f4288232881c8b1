use Prim.Native.Nat.{ℕ, ◌+◌, ◌-◌, ◌*◌}
use mathlib.Core.Path.{◌≡◌}
use mathlib.Core.List.{List}
use lib.IntN.{ℤ}
use lib.ListN.{length}
use lib.Seq.{sets}
use Rattle.limits.specs.Limits.{most_records}
use Rattle.heights.specs.Height.{height_at}
use Rattle.heights.specs.Series.{series_from, series_of}
use Rattle.heights.specs.inner.Angles.{Angles}
use Rattle.heights.specs.inner.Lent.{constituents_lent}
use Rattle.heights.specs.declared.Lent.{Lent}
use Rattle.heights.proofs.series.series.Given as goal

-- before height n: the heights left, written on, give the whole series, and the angles are those of its minute
pub record Writing (lent : Lent) (start step : ℕ) (out₀ out : List ℤ) (angles : List ℕ) (n : ℕ) : Type 0 where
  pub room : length angles ≡ most_records
  pub here : Angles lent.arguments.now lent.lags.now lent.frequencies.now lent.count (start + n * step) angles
  pub left : sets out n (series_from (height_at (constituents_lent lent)) start step n (length out₀ - n)) ≡ sets out₀ 0 (series_of (height_at (constituents_lent lent)) start step (length out₀))

abbrev pub invariant-loop-height : goal.invariant-loop-height
invariant-loop-height l = Writing l.lent l.start l.step l.initial.out l.out l.angles l.height-index
