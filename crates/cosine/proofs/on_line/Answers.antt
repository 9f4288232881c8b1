-- `cosine::on_line` meets its contract: the entries at both ends are the table's, and between them the line falls (`Quadrants`).
-- Assumes nothing.
use Prim.Native.Nat.{◌+◌}
use native.Mathlib.Omega.{arith}
use borrow.Author.Rules.{rules}
use lib.Dec.{lit<}
use lib.ListN.{get_or}
use Rattle.cosine.specs.Fixed.{step}
use Rattle.cosine.proofs.Computed.{passed}
use Rattle.cosine.proofs.Quadrants.{entry-fits, Falling, falling-line}
use Rattle.cosine.proofs.on_line.Goals as goal

pub overflow_cast-c : goal.overflow_cast-c
overflow_cast-c c =
    entry-fits passed c.args.i (omega arith) (c.requires.table.each c.args.i (omega arith))

pub overflow_cast-d : goal.overflow_cast-d
overflow_cast-d c =
    entry-fits passed (c.args.i + 1) (omega arith) (c.requires.table.each (c.args.i + 1) (omega arith))

pub overflow_sub-result : goal.overflow_sub-result
overflow_sub-result c =
    let l : Falling step c.args.i c.args.r (get_or c.args.table.now c.args.i 0) (get_or c.args.table.now (c.args.i + 1) 0) =
    falling-line passed (lit< tt) (omega arith) c.requires.i_bound.1 (c.requires.table.each c.args.i (omega arith)) (c.requires.table.each (c.args.i + 1) (omega arith)) in
    l.falls

pub overflow_mul-result : goal.overflow_mul-result
overflow_mul-result c =
    let l : Falling step c.args.i c.args.r (get_or c.args.table.now c.args.i 0) (get_or c.args.table.now (c.args.i + 1) 0) =
    falling-line passed (lit< tt) (omega arith) c.requires.i_bound.1 (c.requires.table.each c.args.i (omega arith)) (c.requires.table.each (c.args.i + 1) (omega arith)) in
    l.product-fits

pub overflow_sub-result-2 : goal.overflow_sub-result-2
overflow_sub-result-2 c =
    let l : Falling step c.args.i c.args.r (get_or c.args.table.now c.args.i 0) (get_or c.args.table.now (c.args.i + 1) 0) =
    falling-line passed (lit< tt) (omega arith) c.requires.i_bound.1 (c.requires.table.each c.args.i (omega arith)) (c.requires.table.each (c.args.i + 1) (omega arith)) in
    l.fall-less

pub returns : goal.returns
returns c =
    let l : Falling step c.args.i c.args.r (get_or c.args.table.now c.args.i 0) (get_or c.args.table.now (c.args.i + 1) 0) =
    falling-line passed (lit< tt) (omega arith) c.requires.i_bound.1 (c.requires.table.each c.args.i (omega arith)) (c.requires.table.each (c.args.i + 1) (omega arith)) in
    record {
      result_value = l.is-line;
      upper_bound = l.at_most;
    }
