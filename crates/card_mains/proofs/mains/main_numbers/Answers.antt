-- `card_mains::mains::main_numbers` meets its contract: the fields from left to right, each as the definition has it.
use borrow.Author.Rules.{rules}
use mathlib.Core.Path.{◌≡◌, refl}
use native.Mathlib.Omega.{arith}
use Rattle.card_mains.specs.Mains.{main_numbers}
use lib.ListN.{length}
use lib.Seq.{take_all}
use mir.Syntax.{w8}
use mir.Val.{SFits}
use mir.ValLaws.{to_z-of_z}
use Rattle.card_mains.proofs.mains.main_numbers.Goals as goal

pub small_field-requires : goal.small_field-requires
small_field-requires c =
    rw c.main_phase.ensures (refl, refl)

pub natural_field-requires : goal.natural_field-requires
natural_field-requires c =
    rw c.satellite_count.ensures refl

pub main_made-requires : goal.main_made-requires
main_made-requires c =
    (rw (c.in-Ok-natural_field.is, c.satellite_count.ensures) at c.natural_field.ensures.natural_within, c.requires)

pub returns-in-Ok-natural_field : goal.returns-in-Ok-natural_field
unfolding main_numbers
returns-in-Ok-natural_field c =
    let len : length c.in-Ok.doodson ≡ 6 = c.in-Ok.ensures.values_len in
    let fits : SFits w8 c.in-Ok-small_field.phase = search rules in
    rw (← c.small_row.ensures.values_value, c.in-Ok.is, ← c.main_phase.ensures, ← c.small_field.ensures, c.in-Ok-small_field.is, ← c.satellite_count.ensures, ← c.natural_field.ensures.result_value, c.in-Ok-natural_field.is, take_all 6 c.in-Ok.doodson (omega arith)) (rw (to_z-of_z w8 c.in-Ok-small_field.phase fits) at c.main_made.ensures)

pub returns-in-Err-natural_field : goal.returns-in-Err-natural_field
unfolding main_numbers
returns-in-Err-natural_field c =
    rw (← c.small_row.ensures.values_value, c.in-Ok.is, ← c.main_phase.ensures, ← c.small_field.ensures, c.in-Ok-small_field.is, ← c.satellite_count.ensures, ← c.natural_field.ensures.result_value, c.in-Err-natural_field.is)

pub returns-in-Err-small_field : goal.returns-in-Err-small_field
unfolding main_numbers
returns-in-Err-small_field c =
    rw (← c.small_row.ensures.values_value, c.in-Ok.is, ← c.main_phase.ensures, ← c.small_field.ensures, c.in-Err-small_field.is)

pub returns-in-Err : goal.returns-in-Err
unfolding main_numbers
returns-in-Err c =
    rw (← c.small_row.ensures.values_value, c.in-Err.is)
