-- `columns::run_end` meets its contract. The loop's invariant: what is passed and the run of the rest are the run from k on. Rests on `run_more`. Assumes nothing.
use native.Mathlib.Omega.{arith}
use mathlib.Core.Path.{◌≡◌}
use Prim.Native.Nat.{suc, ◌+◌, ◌-◌}
use lib.ListN.{length}
use borrow.Author.Tests.{le-leb, lt-leb}
use mathlib.Core.Bool.{and-false}
use Rattle.columns.specs.Bytes.{among, leading}
use Rattle.columns.specs.Columns.{columns}
use Rattle.columns.proofs.Columns.{run_more, run_none}
use Rattle.columns.proofs.run_end.Goals as goal
use Rattle.columns.proofs.run_end.Goals.{then-b-low-via-then-b-low, then-b-low-via-else-b-low+then-high-b}

pub returns-then-b-low : goal.returns-then-b-low
returns-then-b-low c =
    let run = among c.args.low c.args.high in
    let more = run_more run c.args.line.now c.loop-i.i c.args.end c.loop-i-test.true in
    let none : length (leading run (columns c.args.line.now c.loop-i.i (c.args.end - c.loop-i.i))) ≡ 0 = elim c.then-b-low.branch [
      | then-b-low-via-then-b-low w ↦ rw (more, ← c.column-b.ensures, lt-leb _ _ w.if-b-low.true)
      | then-b-low-via-else-b-low+then-high-b w ↦ rw (more, ← c.column-b.ensures, lt-leb _ _ w.if-high-b.true, and-false)
    ] in
    omega arith

pub loop-i-preserved : goal.loop-i-preserved
loop-i-preserved c =
    let e : length (leading (among c.args.low c.args.high) (columns c.args.line.now c.loop-i.i (c.args.end - c.loop-i.i))) ≡ suc (length (leading (among c.args.low c.args.high) (columns c.args.line.now (c.loop-i.i + 1) (c.args.end - (c.loop-i.i + 1))))) = rw (run_more (among c.args.low c.args.high) c.args.line.now c.loop-i.i c.args.end c.loop-i-test.true, ← c.column-b.ensures, le-leb _ _ c.if-b-low.false, le-leb _ _ c.if-high-b.false) in
    omega arith

pub returns-then-k-end : goal.returns-then-k-end
returns-then-k-end c =
    omega (arith, run_none (among c.args.low c.args.high) c.args.line.now c.loop-i.i c.args.end c.loop-i-test.false)

pub returns-else-k-end : goal.returns-else-k-end
returns-else-k-end c =
    omega (arith, run_none (among c.args.low c.args.high) c.args.line.now c.args.k c.args.end c.if-k-end.false)
