-- `swings::apart` meets its contract: how far the two raised heights lie apart. Assumes nothing.
use mir.Syntax.{w64}
use mir.ValLaws.{to_z-of_z}
use Rattle.swings.specs.Swings.{apart}
use Rattle.swings.proofs.apart.Goals as goal

pub returns-clause-is : goal.returns-clause-is
unfolding apart
returns-clause-is c =
    let a = rw (to_z-of_z w64 c.args.a c.ranges.a) at c.raised.ensures.is in
    let b = rw (to_z-of_z w64 c.args.b c.ranges.b) at c.raised-2.ensures.is in
    rw (← a, ← b) c.abs_diff.ensures
