-- `columns::line_length` meets its contract. The loop's invariant: what is passed and the run of the rest are the run of the file. Rests on `run_more`. Assumes nothing.
use native.Mathlib.Omega.{arith}
use mathlib.Core.Path.{◌≡◌}
use Prim.Native.Nat.{suc, ◌+◌, ◌-◌}
use native.Mathlib.Nat.{sub-zero}
use lib.ListN.{length}
use borrow.Author.Tests.{eq-eqb, ne_eqb}
use Rattle.columns.specs.Bytes.{leading}
use Rattle.columns.specs.Lines.{in_line, first_line}
use Rattle.columns.specs.Columns.{columns}
use Rattle.columns.proofs.Columns.{get_d-within, padded-all, run_more, run_none}
use Rattle.columns.proofs.line_length.Goals as goal

pub loop-k-init : goal.loop-k-init
loop-k-init c =
    let e : length (leading in_line (columns c.args.file.now 0 (length c.args.file.now - 0))) ≡ length (first_line c.args.file.now) = rw (sub-zero (length c.args.file.now), padded-all 32 c.args.file.now) in
    omega arith

pub returns-then-b-eq10 : goal.returns-then-b-eq10
returns-then-b-eq10 c =
    let b = get_d-within c.args.file.now c.loop-k.k 32 0 c.loop-k-test.true in
    let e : length (leading in_line (columns c.args.file.now c.loop-k.k (length c.args.file.now - c.loop-k.k))) ≡ 0 = rw (run_more in_line c.args.file.now c.loop-k.k (length c.args.file.now) c.loop-k-test.true, b, eq-eqb _ _ c.if-b-eq10.true) in
    omega arith

pub loop-k-preserved : goal.loop-k-preserved
loop-k-preserved c =
    let b = get_d-within c.args.file.now c.loop-k.k 32 0 c.loop-k-test.true in
    let e : length (leading in_line (columns c.args.file.now c.loop-k.k (length c.args.file.now - c.loop-k.k))) ≡ suc (length (leading in_line (columns c.args.file.now (c.loop-k.k + 1) (length c.args.file.now - (c.loop-k.k + 1))))) = rw (run_more in_line c.args.file.now c.loop-k.k (length c.args.file.now) c.loop-k-test.true, b, ne_eqb _ _ c.if-b-eq10.false) in
    omega arith

pub returns : goal.returns
returns c =
    omega (arith, run_none in_line c.args.file.now c.loop-k.k (length c.args.file.now) (omega arith))
