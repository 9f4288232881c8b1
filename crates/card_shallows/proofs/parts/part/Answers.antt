-- `card_shallows::parts::part` meets its contract. A part is its coefficient and then its main: `part-is`. Assumes nothing.
use borrow.Author.Rules.{rules}
use mir.Syntax.{w8}
use mir.Val.{SFits}
use mir.ValLaws.{to_z-of_z}
use Rattle.card_shallows.proofs.parts.PartLaws.{part-is}
use Rattle.card_shallows.proofs.parts.part.Goals as goal

pub returns-in-Ok-main_named : goal.returns-in-Ok-main_named
returns-in-Ok-main_named c =
    let f : SFits w8 c.in-Ok.coefficient = search rules in
    rw (part-is, ← c.coefficient_field.ensures, c.in-Ok.is, ← c.main_named.ensures, c.in-Ok-main_named.is, to_z-of_z w8 c.in-Ok.coefficient f)

pub returns-in-Err-main_named : goal.returns-in-Err-main_named
returns-in-Err-main_named c =
    rw (part-is, ← c.coefficient_field.ensures, c.in-Ok.is, ← c.main_named.ensures, c.in-Err-main_named.is)

pub returns-in-Err : goal.returns-in-Err
returns-in-Err c =
    rw (part-is, ← c.coefficient_field.ensures, c.in-Err.is)
