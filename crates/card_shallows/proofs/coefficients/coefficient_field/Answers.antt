-- `card_shallows::coefficients::coefficient_field` meets its contract. The field's number, in its range, is at most 900 hundredths in size. Assumes nothing.
use borrow.Author.Rules.{rules}
use mathlib.Core.Path.{◌≡◌, sym, ◌∙◌}
use lib.IntN.{pos, neg_ℤ}
use mir.Syntax.{w64}
use mir.Val.{SFits}
use mir.ValLaws.{to_z-of_z}
use Rattle.std.specs.Prelude.{Ok, Err}
use Rattle.fields.proofs.Ranges.{ranged-within}
use Rattle.card.specs.Formats.{coefficient_field}
use Rattle.card.specs.Card.{field_on}
use Rattle.card.proofs.Ranges.{number_is}
use Rattle.card_shallows.proofs.coefficients.Coefficients.{hundredths-size}
use Rattle.card_shallows.proofs.coefficients.coefficient_field.Goals as goal

pub whole_coefficient-requires : goal.whole_coefficient-requires
whole_coefficient-requires c =
    let f : SFits w64 c.in-Ok.hundredths = search rules in
    let e : Ok c.in-Ok.hundredths ≡ field_on c.args.line.now (coefficient_field c.args.j) = sym c.in-Ok.is ∙ (rw c.coefficient-f.ensures at c.field_on.ensures) in
    rw (to_z-of_z w64 c.in-Ok.hundredths f) (hundredths-size c.in-Ok.hundredths (ranged-within (neg_ℤ (pos 900)) (pos 900) c.in-Ok.hundredths _ e), c.requires.1)

pub returns-in-Ok : goal.returns-in-Ok
returns-in-Ok c =
    let f : SFits w64 c.in-Ok.hundredths = search rules in
    let e : Ok c.in-Ok.hundredths ≡ field_on c.args.line.now (coefficient_field c.args.j) = sym c.in-Ok.is ∙ (rw c.coefficient-f.ensures at c.field_on.ensures) in
    rw (← number_is c.args.line.now (coefficient_field c.args.j) (Ok c.in-Ok.hundredths) e) (rw (c.coefficient-f.ensures, to_z-of_z w64 c.in-Ok.hundredths f) at c.whole_coefficient.ensures)

pub returns-in-Err : goal.returns-in-Err
returns-in-Err c =
    let e : Err c.in-Err.error ≡ field_on c.args.line.now (coefficient_field c.args.j) = sym c.in-Err.is ∙ (rw c.coefficient-f.ensures at c.field_on.ensures) in
    rw (c.fault_in.ensures, c.from.ensures, c.coefficient-f.ensures, ← number_is c.args.line.now (coefficient_field c.args.j) (Err c.in-Err.error) e)
