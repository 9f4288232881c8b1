-- `columns::is_blank` meets its contract. A line with as many columns as it has bytes is itself: `padded-all`. Assumes nothing.
use lib.ListN.{length}
use native.Mathlib.Nat.{sub-zero}
use Rattle.columns.proofs.Columns.{padded-all}
use Rattle.columns.proofs.is_blank.Goals as goal

pub returns : goal.returns
returns c =
    rw (sub-zero (length c.args.line.now), padded-all 32 c.args.line.now) at c.all_among.ensures
