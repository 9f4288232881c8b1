-- `card_frequencies::frequencies::frequency_fields` meets its contract: the name, then the number to the right of it.
use mathlib.Core.Path.{refl}
use Rattle.card.specs.Card.{new_name}
use Rattle.card_frequencies.specs.Frequencies.{frequency_card}
use Rattle.card_frequencies.proofs.frequencies.Rows.{frequency-read}
use Rattle.card_frequencies.proofs.frequencies.frequency_fields.Goals as goal

pub returns-then-name_blank : goal.returns-then-name_blank
unfolding frequency_card new_name
returns-then-name_blank c =
    rw (c.only.ensures, ← c.name_part-name.ensures.result_value_2, ← c.name_blank.ensures, c.if-name_blank.true)

pub natural_field-requires : goal.natural_field-requires
natural_field-requires c =
    rw c.frequency.ensures refl

pub returns-in-Some : goal.returns-in-Some
unfolding frequency_card new_name
returns-in-Some c =
    rw (c.only-in-Some.ensures, ← c.name_part-name.ensures.result_value_2, ← c.name_blank.ensures, c.if-name_blank.false, ← c.find_name.ensures, c.in-Some.is)

pub returns-in-None : goal.returns-in-None
unfolding frequency_card new_name
returns-in-None c =
    rw (frequency-read c.args.line.now c.natural_field.result, c.natural_field.ensures.result_value, c.frequency.ensures) (rw (← c.name_part-name.ensures.result_value_2, ← c.name_blank.ensures, c.if-name_blank.false, ← c.find_name.ensures, c.in-None.is))
