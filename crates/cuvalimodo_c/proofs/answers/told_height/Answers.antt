-- `answers::told_height` meets its contract, case by case. Assumes nothing.
use mathlib.Core.Path.{refl, sym, ap}
use mir.Syntax.{w64}
use mir.Val.{SFits}
use mir.ValLaws.{to_z-of_z}
use Rattle.cuvalimodo_c.specs.Answers.{reading_of}
use borrow.Author.Rules.{rules}
use Rattle.cuvalimodo_c.proofs.Numbers.{refusal-read}
use Rattle.cuvalimodo_c.proofs.answers.told_height.Goals as goal

pub returns-in-Ok : goal.returns-in-Ok
returns-in-Ok c =
    let fits : SFits w64 c.in-Ok.height = search rules in
    rw (c.in-Ok.is, to_z-of_z w64 c.in-Ok.height fits) (refl, refl)

pub returns-in-Err : goal.returns-in-Err
returns-in-Err c =
    let read = refusal-read c.in-Err.refused.refusal c.in-Err.refused.place _ in
    rw (c.in-Err.is, c.number_of.ensures) (read, ap reading_of (sym read))
