-- `card_shallows::shallowcard::shallow_card` meets its contract. Place, count of parts and parts, each as its reader says. Assumes nothing.
use borrow.Author.Rules.{rules}
use Prim.Native.Nat.{◌≤◌}
use Rattle.card_shallows.specs.Shallow.{shallow_card}
use mathlib.Core.Path.{refl}
use Rattle.card_shallows.proofs.shallowcard.shallow_card.Goals as goal

pub natural_field-requires : goal.natural_field-requires
natural_field-requires c =
    rw c.part_count.ensures refl

pub overflow_cast-parts : goal.overflow_cast-parts
overflow_cast-parts c =
    let few : c.in-Ok-natural_field.parts ≤ 4 = rw (c.in-Ok-natural_field.is, c.part_count.ensures) at c.natural_field.ensures.natural_within in
    search rules

pub parts_on-requires : goal.parts_on-requires
parts_on-requires c =
    let few : c.in-Ok-natural_field.parts ≤ 4 = rw (c.in-Ok-natural_field.is, c.part_count.ensures) at c.natural_field.ensures.natural_within in
    (few, c.requires.0, c.requires.1)

pub returns-in-Ok-natural_field : goal.returns-in-Ok-natural_field
unfolding shallow_card
returns-in-Ok-natural_field c =
    rw (← c.own_place.ensures, c.in-Ok.is, ← c.part_count.ensures, ← c.natural_field.ensures.result_value, c.in-Ok-natural_field.is) c.parts_on.ensures

pub returns-in-Err-natural_field : goal.returns-in-Err-natural_field
unfolding shallow_card
returns-in-Err-natural_field c =
    rw (← c.own_place.ensures, c.in-Ok.is, ← c.part_count.ensures, ← c.natural_field.ensures.result_value, c.in-Err-natural_field.is)

pub returns-in-Err : goal.returns-in-Err
unfolding shallow_card
returns-in-Err c =
    rw (← c.own_place.ensures, c.in-Err.is)
