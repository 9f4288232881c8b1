-- `card::number` meets its contract: what the field gives is the number in it, or what is wrong with it.
use borrow.Author.Rules.{rules}
use mathlib.Core.Path.{sym, ◌∙◌}
use mir.Syntax.{w64}
use mir.Val.{SFits}
use mir.ValLaws.{to_z-of_z}
use Rattle.std.specs.Prelude.{Ok, Err}
use Rattle.card.proofs.Ranges.{number_is}
use Rattle.card.proofs.number.Goals as goal

pub returns-in-Ok : goal.returns-in-Ok
returns-in-Ok c =
    let f : SFits w64 c.in-Ok.value = search rules in
    rw (to_z-of_z w64 c.in-Ok.value f) (number_is c.args.line.now c.args.f (Ok c.in-Ok.value) (sym c.in-Ok.is ∙ c.field_on.ensures))

pub returns-in-Err : goal.returns-in-Err
returns-in-Err c =
    rw (c.fault_in.ensures, c.from.ensures) (number_is c.args.line.now c.args.f (Err c.in-Err.error) (sym c.in-Err.is ∙ c.field_on.ensures))
