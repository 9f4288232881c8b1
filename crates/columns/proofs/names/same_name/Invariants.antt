use mathlib.Core.Path.{◌≡◌}
use Prim.Native.Nat.{◌-◌}
use Rattle.columns.specs.Columns.{padded, columns}
use Rattle.columns.specs.Names.{same}
use Rattle.columns.proofs.names.same_name.Given as goal

abbrev pub invariant-loop-j : goal.invariant-loop-j
invariant-loop-j l = same (columns l.part l.j (5 - l.j)) (padded 0 l.row l.j (5 - l.j)) ≡ same (columns l.part 0 5) (padded 0 l.row 0 5)
