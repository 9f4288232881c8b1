use mathlib.Core.Path.{◌≡◌}
use Rattle.month_workings.specs.inner.Given.{KeptBy}
use Rattle.month.specs.inner.View.{held_upto}
use Rattle.month.proofs.Put.{Room}
use Rattle.month.proofs.Structs.{all, with_rest}
use Rattle.month.proofs.prepare_records.Given as goal

abbrev pub invariant-loop-k : goal.invariant-loop-k
invariant-loop-k l = record {
  whole : with_rest l.table l.station l.given (held_upto l.month l.k) l.n l.k ≡ all l.table l.station l.given;
  room : Room l.month;
  kept : KeptBy l.given l.table l.kept;
}
