use Rattle.table.proofs.Rows.{Copied}
use Rattle.table.proofs.put_u32.Given as goal

abbrev pub invariant-loop-j : goal.invariant-loop-j
invariant-loop-j l = Copied l.initial.xs l.at l.row l.xs l.j
