-- `card_mains::satellitefields::satellite_fields` meets its contract: the fields from left to right, each as the definition has it.
use borrow.Author.Rules.{rules}
use mathlib.Core.Path.{refl}
use mir.Syntax.{w8}
use mir.Val.{SFits}
use mir.ValLaws.{to_z-of_z}
use Rattle.card_mains.specs.Satellite.{satellite}
use Rattle.card_mains.proofs.satellitefields.satellite_fields.Goals as goal

pub small_field-requires : goal.small_field-requires
small_field-requires c =
    rw c.satellite_phase.ensures (refl, refl)

pub returns-in-Ok-ratio_on : goal.returns-in-Ok-ratio_on
unfolding satellite
returns-in-Ok-ratio_on c =
    let fits : SFits w8 c.in-Ok-small_field.phase = search rules in
    (rw (← c.small_row.ensures.values_value, c.in-Ok.is, ← c.satellite_phase.ensures, ← c.small_field.ensures, c.in-Ok-small_field.is, ← c.ratio_on.ensures.result_value, c.in-Ok-ratio_on.is, ← c.mark_column.ensures, ← c.column.ensures, to_z-of_z w8 c.in-Ok-small_field.phase fits), c.in-Ok.ensures.values_len)

pub returns-in-Err-ratio_on : goal.returns-in-Err-ratio_on
unfolding satellite
returns-in-Err-ratio_on c =
    (rw (← c.small_row.ensures.values_value, c.in-Ok.is, ← c.satellite_phase.ensures, ← c.small_field.ensures, c.in-Ok-small_field.is, ← c.ratio_on.ensures.result_value, c.in-Err-ratio_on.is), tt)

pub returns-in-Err-small_field : goal.returns-in-Err-small_field
unfolding satellite
returns-in-Err-small_field c =
    (rw (← c.small_row.ensures.values_value, c.in-Ok.is, ← c.satellite_phase.ensures, ← c.small_field.ensures, c.in-Err-small_field.is), tt)

pub returns-in-Err : goal.returns-in-Err
unfolding satellite
returns-in-Err c =
    (rw (← c.small_row.ensures.values_value, c.in-Err.is), tt)
