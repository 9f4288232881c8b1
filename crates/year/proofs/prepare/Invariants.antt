use Rattle.year.proofs.Prepared.{Done}
use Rattle.year.proofs.prepare.Given as goal

abbrev pub invariant-loop-m : goal.invariant-loop-m
invariant-loop-m l = Done l.table l.station l.year l.m l.rows.frequencies l.rows.arguments l.rows.ps l.rows.qs
