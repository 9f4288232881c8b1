-- `month_workings::workings::work_main` meets its contract: nothing to do past the array or where it is worked out, else three stores (`Storing`).
use lib.Dec.{lit<}
use native.Mathlib.Omega.{arith}
use mir.Syntax.{w64}
use mir.Val.{SFits}
use mir.ValLaws.{to_z-of_z}
use Rattle.angles.specs.Ticks.{turn}
use Rattle.angles.proofs.Known.{cast}
use Rattle.month_workings.proofs.workings.Storing.{past_all, stored}
use borrow.Author.Rules.{rules}
use Rattle.month_workings.proofs.workings.work_main.Goals as goal

pub returns-then-k-ge-MAINS : goal.returns-then-k-ge-MAINS
returns-then-k-ge-MAINS c =
    past_all _ _ c.args.k c.args.kept.now c.requires.kept_by c.if-k-ge-MAINS.true

pub returns : goal.returns
returns c =
    let fx : SFits w64 c.sum_of-p.result.x = search rules in
    let fy : SFits w64 c.sum_of-p.result.y = search (rules, c.struct_told-2-1.given.1.0) in
    rw (to_z-of_z w64 c.sum_of-p.result.x fx, to_z-of_z w64 c.sum_of-p.result.y fy, (cast c.argument_of-v.result {A = turn} (omega (arith, c.argument_of-v.ensures.upper_bound)) (lit< tt)).is)
    (stored _ _ c.args.k c.args.kept.now c.requires.kept_by c.argument_of-v.result c.sum_of-p.result.x c.sum_of-p.result.y c.if-k-ge-MAINS.false c.argument_of-v.ensures.upper_bound c.argument_of-v.ensures.value c.sum_of-p.ensures)
