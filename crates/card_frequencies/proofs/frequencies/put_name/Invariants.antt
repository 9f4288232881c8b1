use mathlib.Core.Path.{◌≡◌}
use Prim.Native.Nat.{◌+◌, ◌-◌, ◌*◌}
use lib.Seq.{sets}
use Rattle.columns.specs.Columns.{columns}
use Rattle.card_frequencies.proofs.frequencies.put_name.Given as goal

abbrev pub invariant-loop-j : goal.invariant-loop-j
invariant-loop-j l = sets l.names (5 * l.place + l.j) (columns l.line (l.from + l.j) (5 - l.j)) ≡ sets l.initial.names (5 * l.place) (columns l.line l.from 5)
