use Prim.Native.Nat.{ℕ, ◌<◌}
use mathlib.Core.Path.{◌≡◌}
use lib.IntN.{pos}
use lib.ListN.{length, get_or}
use Rattle.limits.specs.Limits.{most_records}
use Rattle.heights.proofs.series.weights_of.Given as goal

abbrev pub invariant-loop-k : goal.invariant-loop-k
invariant-loop-k l = record {
  room : length l.weights ≡ most_records;
  copied : (j : ℕ) → j < l.k → get_or l.weights j (pos 0) ≡ get_or l.row j (pos 0);
}
