use mathlib.Core.Path.{◌≡◌}
use Prim.Native.Nat.{◌+◌, ◌-◌}
use lib.ListN.{length}
use Rattle.columns.specs.Bytes.{among, leading}
use Rattle.columns.specs.Columns.{columns}
use Rattle.columns.proofs.run_end.Given as goal

abbrev pub invariant-loop-i : goal.invariant-loop-i
invariant-loop-i l = l.i + length (leading (among l.low l.high) (columns l.line l.i (l.end - l.i))) ≡ l.k + length (leading (among l.low l.high) (columns l.line l.k (l.end - l.k)))
