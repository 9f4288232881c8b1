-- `columns::names::find_name` meets its contract. The loop's invariant: looking from place k on finds what looking from 0 on finds. Rests on the clauses of `place_from`. Assumes nothing.
use native.Mathlib.Nat.{sub-zero}
use Rattle.columns.specs.Columns.{columns}
use Rattle.columns.proofs.names.Names.{place-more, place_none}
use Rattle.columns.proofs.names.find_name.Goals as goal

pub loop-k-init : goal.loop-k-init
loop-k-init c =
    simp sub-zero

pub returns-then-is_name : goal.returns-then-is_name
returns-then-is_name c =
    rw (place-more (columns c.args.part.now 0 5) c.args.names.now c.loop-k.k c.args.count c.loop-k-test.true, ← c.is_name.ensures, c.if-is_name.true) at c.loop-k.invariant

pub loop-k-preserved : goal.loop-k-preserved
loop-k-preserved c =
    rw (place-more (columns c.args.part.now 0 5) c.args.names.now c.loop-k.k c.args.count c.loop-k-test.true, ← c.is_name.ensures, c.if-is_name.false) at c.loop-k.invariant

pub returns : goal.returns
returns c =
    rw (place_none (columns c.args.part.now 0 5) c.args.names.now c.loop-k.k c.args.count c.loop-k-test.false) at c.loop-k.invariant
