-- `table::put_i8` meets its contract: the loop copies the row number by number (`Copied`), each read back from its byte.
use borrow.Author.Rules.{rules}
use lib.IntN.{pos}
use lib.ListN.{get_or}
use mir.Syntax.{w8}
use mir.Val.{SFits}
use mir.ValLaws.{to_z-of_z}
use Rattle.table.proofs.Rows.{copied_none, copied_next, copied_all}
use Rattle.table.proofs.put_i8.Goals as goal

pub loop-j-init : goal.loop-j-init
loop-j-init c =
    copied_none

pub loop-j-preserved : goal.loop-j-preserved
loop-j-preserved c =
    let f : SFits w8 (get_or c.args.row.now c.loop-j.j (pos 0)) = search rules in
    rw (to_z-of_z w8 (get_or c.args.row.now c.loop-j.j (pos 0)) f) (copied_next (pos 0) c.loop-j-test.true c.loop-j.invariant)

pub returns : goal.returns
returns c =
    copied_all c.loop-j-test.false c.loop-j.invariant
