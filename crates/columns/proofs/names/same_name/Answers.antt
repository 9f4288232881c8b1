-- `columns::names::same_name` meets its contract. The loop's invariant: comparing from byte j on answers as from 0 on. Rests on the clauses of `same`. Assumes nothing.
use native.Mathlib.Omega.{arith}
use borrow.Author.Tests.{eq-eqb, ne_eqb}
use Rattle.columns.proofs.names.Names.{same_more, same_none}
use Rattle.columns.proofs.names.same_name.Goals as goal

pub loop-j-preserved : goal.loop-j-preserved
loop-j-preserved c =
    rw (same_more 32 0 c.args.part.now c.args.row.now c.loop-j.j 5 (omega arith), ← c.column.ensures, ← c.byte.ensures, eq-eqb _ _ c.if-column-byte.false) at c.loop-j.invariant

pub returns-then-column-byte : goal.returns-then-column-byte
returns-then-column-byte c =
    rw (same_more 32 0 c.args.part.now c.args.row.now c.loop-j.j 5 (omega arith), ← c.column.ensures, ← c.byte.ensures, ne_eqb _ _ c.if-column-byte.true) at c.loop-j.invariant

pub returns : goal.returns
returns c =
    rw (same_none 32 0 c.args.part.now c.args.row.now c.loop-j.j 5 c.loop-j-test.false) at c.loop-j.invariant
