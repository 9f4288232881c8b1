use mathlib.Core.Path.{◌≡◌}
use Prim.Native.Nat.{◌-◌}
use Rattle.table.specs.inner.View.{listed, naturals, integers, part_of, shallow_of}
use Rattle.month_satellites.specs.inner.Ranges.{Sized}
use Rattle.month_satellites.specs.inner.View.{pair_of}
use Rattle.month_pairs.specs.Shallow.{times_parts, pair_from_parts}
use Rattle.month_pairs.specs.inner.Ranges.{pair_most}
use Rattle.month_pairs.specs.inner.Rows.{pairs_of}
use Rattle.month_pairs.proofs.nodal.shallow_pair.Given as goal

abbrev pub invariant-loop-j : goal.invariant-loop-j
invariant-loop-j l = record {
  same : times_parts (pairs_of l.kept) (pair_of l.p) (listed (part_of (naturals 6 l.table.shallowcards l.k) (integers 4 l.table.coefficients l.k)) l.j (l.count - l.j)) ≡ pair_from_parts (pairs_of l.kept) (shallow_of l.table.shallowcards l.table.coefficients l.k);
  sized : Sized pair_most l.p;
}
