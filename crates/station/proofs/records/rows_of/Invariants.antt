-- `station::records::rows_of`: before each round the first i records stand in their rows.
use mathlib.Core.Path.{◌≡◌}
use Rattle.station.proofs.records.Copies.{rows_upto}
use Rattle.station.proofs.records.rows_of.Given as goal

abbrev pub invariant-loop-i : goal.invariant-loop-i
invariant-loop-i l = l.rows ≡ rows_upto l.rs l.i
