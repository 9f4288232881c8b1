use Prim.Native.Nat.{ℕ, ◌+◌, ◌<◌}
use lib.ListN.{get_or}
use Rattle.table.specs.inner.View.{naturals}
use Rattle.month_workings.specs.inner.Kept.{Has}
use Rattle.month_workings.specs.inner.Given.{KeptBy}
use Rattle.month_workings.proofs.workings.work_parts.Given as goal

abbrev pub invariant-loop-j : goal.invariant-loop-j
invariant-loop-j l = record {
  kept : KeptBy l.given l.table l.kept;
  has : (i : ℕ) → i < l.j → Has l.kept (get_or (naturals 6 l.table.shallowcards l.row) (2 + i) 0);
}
