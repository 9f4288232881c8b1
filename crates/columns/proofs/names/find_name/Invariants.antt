use mathlib.Core.Path.{◌≡◌}
use Prim.Native.Nat.{◌-◌}
use Rattle.columns.specs.Columns.{columns}
use Rattle.columns.specs.Names.{names_from, place_from, place_of}
use Rattle.columns.proofs.names.find_name.Given as goal

abbrev pub invariant-loop-k : goal.invariant-loop-k
invariant-loop-k l = place_from (columns l.part 0 5) (names_from l.names l.k (l.count - l.k)) l.k ≡ place_of (columns l.part 0 5) (names_from l.names 0 l.count)
