use Prim.Native.Nat.{ℕ, ◌<◌}
use mathlib.Core.Path.{◌≡◌}
use lib.IntN.{pos}
use lib.ListN.{get_or}
use Rattle.heights.specs.Height.{height_at}
use Rattle.heights.specs.inner.Lent.{constituents_lent}
use Rattle.heights.proofs.bookings.heights_at.Given as goal

abbrev pub invariant-loop-n : goal.invariant-loop-n
invariant-loop-n l = (k : ℕ) → k < l.n → get_or l.out k (pos 0) ≡ height_at (constituents_lent l.lent) (get_or l.minutes k 0)
