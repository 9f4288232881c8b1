use mathlib.Core.Path.{◌≡◌}
use Prim.Native.Nat.{◌*◌}
use lib.Seq.{paste}
use Rattle.limits.specs.Limits.{most_records}
use Rattle.year.proofs.put_month.Given as goal

abbrev pub invariant-loop-k : goal.invariant-loop-k
invariant-loop-k l = record {
  frequencies : l.rows.frequencies ≡ l.initial.rows.frequencies;
  arguments : l.rows.arguments ≡ paste l.initial.rows.arguments (l.m * most_records) l.month.arguments l.k;
  cosines : l.rows.ps ≡ paste l.initial.rows.ps (l.m * most_records) l.month.ps l.k;
  sines : l.rows.qs ≡ paste l.initial.rows.qs (l.m * most_records) l.month.qs l.k;
}
