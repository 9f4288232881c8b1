use mathlib.Core.Path.{◌≡◌}
use Prim.Native.Nat.{◌+◌, ◌-◌}
use lib.ListN.{length}
use Rattle.columns.specs.Bytes.{leading}
use Rattle.columns.specs.Lines.{in_line, first_line}
use Rattle.columns.specs.Columns.{columns}
use Rattle.columns.proofs.line_length.Given as goal

abbrev pub invariant-loop-k : goal.invariant-loop-k
invariant-loop-k l = l.k + length (leading in_line (columns l.file l.k (length l.file - l.k))) ≡ length (first_line l.file)
