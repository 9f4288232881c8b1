use mathlib.Core.Path.{◌≡◌}
use Prim.Native.Nat.{◌-◌}
use Rattle.month_pairs.specs.Pairs.{times_often}
use Rattle.month_pairs.specs.inner.Ranges.{pair_most}
use Rattle.month_satellites.specs.inner.Ranges.{Sized}
use Rattle.month_satellites.specs.inner.View.{pair_of}
use Rattle.month_pairs.proofs.pairs.times_often.Given as goal

abbrev pub invariant-loop : goal.invariant-loop
invariant-loop l = record {
  same : times_often (l.n - l.counter) (pair_of l.p) (pair_of l.by) ≡ times_often l.n (pair_of l.initial.p) (pair_of l.by);
  sized : Sized pair_most l.p;
}
