use Prim.Native.Nat.{◌-◌}
use lib.ListN.{length}
use Rattle.heights.specs.Height.{height_over}
use Rattle.heights.specs.inner.Lent.{months_lent}
use Rattle.heights.proofs.months.Joined.{Joining}
use Rattle.heights.proofs.months.series.Given as goal

abbrev pub invariant-loop-n : goal.invariant-loop-n
invariant-loop-n l = Joining (height_over (months_lent l.lent)) l.start l.step l.initial.out l.out l.n

abbrev pub decreases-loop-n : goal.decreases-loop-n
decreases-loop-n l = length l.initial.out - l.n
