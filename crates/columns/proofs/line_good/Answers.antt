-- `columns::line_good` meets its contract. Both tests as the definition has them; a line with as many columns as it has bytes is itself: `padded-all`. Assumes nothing.
use native.Mathlib.Omega.{arith}
use Prim.Native.Nat.{◌≤◌, ◌<◌}
use lib.ListN.{length}
use native.Mathlib.Nat.{sub-zero}
use borrow.Author.Tests.{le-leb, lt-leb}
use Rattle.columns.proofs.Columns.{padded-all}
use Rattle.columns.proofs.line_good.Goals as goal

pub returns-then-line-gt-COLUMNS : goal.returns-then-line-gt-COLUMNS
returns-then-line-gt-COLUMNS c =
    let h : 80 < length c.args.line.now = omega arith in
    rw (lt-leb (length c.args.line.now) 80 h)

pub returns : goal.returns
returns c =
    let h : length c.args.line.now ≤ 80 = omega arith in
    rw (le-leb (length c.args.line.now) 80 h) (rw (sub-zero (length c.args.line.now), padded-all 32 c.args.line.now) at c.all_among.ensures)
