-- `clock::height_lent` meets its contract: refused by what is asked first, or the month's height (`Posed` in calls). Assumes nothing.
use borrow.Author.Rules.{rules}
use native.Mathlib.Omega.{arith}
use Prim.Native.Nat.{◌≤◌}
use mathlib.Core.Path.{sym}
use mir.Syntax.{w64}
use mir.Val.{SFits}
use mir.ValLaws.{to_z-of_z}
use Rattle.limits.specs.Limits.{most_minutes}
use Rattle.calls.proofs.asked.Passed.{height-within}
use Rattle.calls.proofs.Posed.{height-refused, height-given}
use Rattle.clock.specs.View.{constituents_in}
use Rattle.clock.proofs.Lent.{parts-made, from_parts}
use Rattle.clock.proofs.height_lent.Goals as goal

pub height-requires : goal.height-requires
height-requires c =
    let k = c.args.lent.now in
    let w = height-within k.tabled k.stationed k.dated k.last c.args.minute (sym (rw c.there.ensures at c.in_default.ensures)) in
    let made = parts-made k c.requires in
    let parts = made w.0 in
    let within : c.args.minute ≤ most_minutes = omega (arith, w.1, parts.1.1) in
    record { lent = c.lent.ensures.lent made w.0; minute_bound = within }

pub returns-in-Err : goal.returns-in-Err
returns-in-Err c =
    let k = c.args.lent.now in
    from_parts k c.args.minute _
    (record { returns = λ t st year month. height-refused k.tabled t k.stationed st k.dated (record { year = year; month = month; prepared = record { last = k.last; constituents = constituents_in k } }) c.args.minute _ _ (sym (rw c.there.ensures at c.in-Err.ensures)) })

pub returns : goal.returns
returns c =
    let k = c.args.lent.now in
    let fits : SFits w64 c.height.result = search rules in
    rw (to_z-of_z w64 c.height.result fits, c.height.ensures.value, c.lent.ensures.constituents)
    (from_parts k c.args.minute _
    (record { returns = λ t st year month. height-given k.tabled t k.stationed st k.dated (record { year = year; month = month; prepared = record { last = k.last; constituents = constituents_in k } }) c.args.minute (sym (rw c.there.ensures at c.in_default.ensures)) }))
