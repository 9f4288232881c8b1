-- `card_frequencies::frequencies::frequency_card` meets its contract: how the card begins, then its fields.
use Rattle.card_frequencies.specs.Frequencies.{next_frequency}
use Rattle.columns.proofs.names.Names.{names-count}
use Rattle.card_frequencies.proofs.frequencies.frequency_card.Goals as goal

pub returns-in-Ok-Ends : goal.returns-in-Ok-Ends
unfolding next_frequency
returns-in-Ok-Ends c =
    rw (names-count c.args.names.now 0 c.args.count, ← c.begins.ensures, c.in-Ok-Ends.is, c.in-Ok-Ends.field-0-is)

pub returns-in-Ok : goal.returns-in-Ok
unfolding next_frequency
returns-in-Ok c =
    rw (names-count c.args.names.now 0 c.args.count, ← c.begins.ensures, c.in-Ok-Fields.is, c.in-Ok-Fields.field-0-is, ← c.frequency_fields.ensures, c.in-Ok.is)

pub returns-in-Err-frequency_fields : goal.returns-in-Err-frequency_fields
unfolding next_frequency
returns-in-Err-frequency_fields c =
    rw (names-count c.args.names.now 0 c.args.count, ← c.begins.ensures, c.in-Ok-Fields.is, c.in-Ok-Fields.field-0-is, ← c.frequency_fields.ensures, c.in-Err-frequency_fields.is)

pub returns-in-Err : goal.returns-in-Err
unfolding next_frequency
returns-in-Err c =
    rw (names-count c.args.names.now 0 c.args.count, ← c.begins.ensures, c.in-Err.is)
