use Prim.Native.Nat.{ℕ, ◌≤◌}
use mathlib.Core.Path.{◌≡◌}
use mathlib.Core.List.{List}
use lib.ListN.{length, get_or}
use Rattle.limits.specs.Limits.{most_records}
use Rattle.heights.specs.inner.Angles.{MovedOn}
use Rattle.heights.proofs.series.move_on.Given as goal

-- before place k: the places below it are moved on, the others are as they were
pub record Moving (angles₀ ticks angles : List ℕ) (k : ℕ) : Type 0 where
  pub room : length angles ≡ most_records
  pub moved : MovedOn k ticks angles₀ angles
  pub others : (j : ℕ) → k ≤ j → get_or angles j 0 ≡ get_or angles₀ j 0

abbrev pub invariant-loop-k : goal.invariant-loop-k
invariant-loop-k l = Moving l.initial.angles l.ticks l.angles l.k
