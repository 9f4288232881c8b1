-- `card::small_field` meets its contract: a number in its range fits a byte, so the cast keeps it.
use borrow.Author.Rules.{rules}
use mir.Syntax.{w8, w64}
use mir.Val.{SFits}
use mir.ValLaws.{to_z-of_z}
use Rattle.card.proofs.Ranges.{small-fits, number-in}
use Rattle.card.proofs.small_field.Goals as goal

pub overflow_cast-result : goal.overflow_cast-result
overflow_cast-result c =
    let f : SFits w64 c.in-Ok.value = search rules in
    let e = number-in c.args.line.now c.args.f c.in-Ok.value c.in-Ok.ensures in
    rw (to_z-of_z w64 c.in-Ok.value f) (small-fits _ _ c.in-Ok.value _ c.requires e)

pub returns-in-Ok : goal.returns-in-Ok
returns-in-Ok c =
    let f : SFits w64 c.in-Ok.value = search rules in
    let e = number-in c.args.line.now c.args.f c.in-Ok.value c.in-Ok.ensures in
    rw (to_z-of_z w64 c.in-Ok.value f, to_z-of_z w8 c.in-Ok.value (small-fits _ _ c.in-Ok.value _ c.requires e)) c.in-Ok.ensures

pub returns-in-Err : goal.returns-in-Err
returns-in-Err c = c.in-Err.ensures
