-- What leaves the crate for a link: the table of its functions' code, what the table asks of the crates below, and that a world with both has
-- the code of each function that is called from above. By what the kit generates, which the crate alone can name. Assumes nothing.
use prog.Linked.{Tree, World, Holds, in_world}
use mathlib.Core.Bool.{true}
use prog.LinkedThreads.{HasT}
use Rattle.card.proofs.TheLink as link
use Rattle.card.proofs.faults.TroubleFromFieldError.from.Symbol as faults-TroubleFromFieldError-from
use Rattle.card.proofs.faults.bad_line.Symbol as faults-bad_line
use Rattle.card.proofs.faults.only.Symbol as faults-only
use Rattle.card.proofs.faults.refusal_for.Symbol as faults-refusal_for
use Rattle.card.proofs.field_on.Symbol as field_on
use Rattle.card.proofs.formats.coefficient.Symbol as formats-coefficient
use Rattle.card.proofs.formats.fault_in.Symbol as formats-fault_in
use Rattle.card.proofs.formats.five_field.Symbol as formats-five_field
use Rattle.card.proofs.formats.frequency.Symbol as formats-frequency
use Rattle.card.proofs.formats.main_phase.Symbol as formats-main_phase
use Rattle.card.proofs.formats.mark_column.Symbol as formats-mark_column
use Rattle.card.proofs.formats.part_count.Symbol as formats-part_count
use Rattle.card.proofs.formats.satellite_count.Symbol as formats-satellite_count
use Rattle.card.proofs.formats.satellite_phase.Symbol as formats-satellite_phase
use Rattle.card.proofs.lines.after_line.Symbol as lines-after_line
use Rattle.card.proofs.lines.begins.Symbol as lines-begins
use Rattle.card.proofs.lines.line_at.Symbol as lines-line_at
use Rattle.card.proofs.natural_field.Symbol as natural_field
use Rattle.card.proofs.places.is_among.Symbol as places-is_among
use Rattle.card.proofs.places.main_named.Symbol as places-main_named
use Rattle.card.proofs.places.place_named.Symbol as places-place_named
use Rattle.card.proofs.ratio_on.Symbol as ratio_on
use Rattle.card.proofs.small_field.Symbol as small_field
use Rattle.card.proofs.small_row.Symbol as small_row

abbrev pub table : Tree
table = link.table

abbrev pub Below : World → Type 0
Below = link.Below

pub linked-faults-TroubleFromFieldError-from : (W : World) → Holds W "card" table → Below W → HasT (in_world W) true faults-TroubleFromFieldError-from.code
linked-faults-TroubleFromFieldError-from = link.linked-card::faults::TroubleFromFieldError::from

pub linked-faults-bad_line : (W : World) → Holds W "card" table → Below W → HasT (in_world W) true faults-bad_line.code
linked-faults-bad_line = link.linked-card::faults::bad_line

pub linked-faults-only : (W : World) → Holds W "card" table → Below W → HasT (in_world W) true faults-only.code
linked-faults-only = link.linked-card::faults::only

pub linked-faults-refusal_for : (W : World) → Holds W "card" table → Below W → HasT (in_world W) true faults-refusal_for.code
linked-faults-refusal_for = link.linked-card::faults::refusal_for

pub linked-field_on : (W : World) → Holds W "card" table → Below W → HasT (in_world W) true field_on.code
linked-field_on = link.linked-card::field_on

pub linked-formats-coefficient : (W : World) → Holds W "card" table → Below W → HasT (in_world W) true formats-coefficient.code
linked-formats-coefficient = link.linked-card::formats::coefficient

pub linked-formats-fault_in : (W : World) → Holds W "card" table → Below W → HasT (in_world W) true formats-fault_in.code
linked-formats-fault_in = link.linked-card::formats::fault_in

pub linked-formats-five_field : (W : World) → Holds W "card" table → Below W → HasT (in_world W) true formats-five_field.code
linked-formats-five_field = link.linked-card::formats::five_field

pub linked-formats-frequency : (W : World) → Holds W "card" table → Below W → HasT (in_world W) true formats-frequency.code
linked-formats-frequency = link.linked-card::formats::frequency

pub linked-formats-main_phase : (W : World) → Holds W "card" table → Below W → HasT (in_world W) true formats-main_phase.code
linked-formats-main_phase = link.linked-card::formats::main_phase

pub linked-formats-mark_column : (W : World) → Holds W "card" table → Below W → HasT (in_world W) true formats-mark_column.code
linked-formats-mark_column = link.linked-card::formats::mark_column

pub linked-formats-part_count : (W : World) → Holds W "card" table → Below W → HasT (in_world W) true formats-part_count.code
linked-formats-part_count = link.linked-card::formats::part_count

pub linked-formats-satellite_count : (W : World) → Holds W "card" table → Below W → HasT (in_world W) true formats-satellite_count.code
linked-formats-satellite_count = link.linked-card::formats::satellite_count

pub linked-formats-satellite_phase : (W : World) → Holds W "card" table → Below W → HasT (in_world W) true formats-satellite_phase.code
linked-formats-satellite_phase = link.linked-card::formats::satellite_phase

pub linked-lines-after_line : (W : World) → Holds W "card" table → Below W → HasT (in_world W) true lines-after_line.code
linked-lines-after_line = link.linked-card::lines::after_line

pub linked-lines-begins : (W : World) → Holds W "card" table → Below W → HasT (in_world W) true lines-begins.code
linked-lines-begins = link.linked-card::lines::begins

pub linked-lines-line_at : (W : World) → Holds W "card" table → Below W → HasT (in_world W) true lines-line_at.code
linked-lines-line_at = link.linked-card::lines::line_at

pub linked-natural_field : (W : World) → Holds W "card" table → Below W → HasT (in_world W) true natural_field.code
linked-natural_field = link.linked-card::natural_field

pub linked-places-is_among : (W : World) → Holds W "card" table → Below W → HasT (in_world W) true places-is_among.code
linked-places-is_among = link.linked-card::places::is_among

pub linked-places-main_named : (W : World) → Holds W "card" table → Below W → HasT (in_world W) true places-main_named.code
linked-places-main_named = link.linked-card::places::main_named

pub linked-places-place_named : (W : World) → Holds W "card" table → Below W → HasT (in_world W) true places-place_named.code
linked-places-place_named = link.linked-card::places::place_named

pub linked-ratio_on : (W : World) → Holds W "card" table → Below W → HasT (in_world W) true ratio_on.code
linked-ratio_on = link.linked-card::ratio_on

pub linked-small_field : (W : World) → Holds W "card" table → Below W → HasT (in_world W) true small_field.code
linked-small_field = link.linked-card::small_field

pub linked-small_row : (W : World) → Holds W "card" table → Below W → HasT (in_world W) true small_row.code
linked-small_row = link.linked-card::small_row
