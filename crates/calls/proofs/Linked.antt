-- What leaves the crate for a link: the table of its functions' code, what the table asks of the crates below, and that a world with both has
-- the code of each function that is called from above. By what the kit generates, which the crate alone can name. Assumes nothing.
use prog.Linked.{Tree, World, Holds, in_world}
use mathlib.Core.Bool.{true}
use prog.LinkedThreads.{HasT}
use Rattle.calls.proofs.TheLink as link
use Rattle.calls.proofs.annual.sheet_outside.Symbol as annual-sheet_outside
use Rattle.calls.proofs.annual.year_answer.Symbol as annual-year_answer
use Rattle.calls.proofs.asked.height_answer.Symbol as asked-height_answer
use Rattle.calls.proofs.asked.series_answer.Symbol as asked-series_answer
use Rattle.calls.proofs.asked.turns_answer.Symbol as asked-turns_answer
use Rattle.calls.proofs.bookings.bookings_answer.Symbol as bookings-bookings_answer
use Rattle.calls.proofs.hourcards.hourly_answer.Symbol as hourcards-hourly_answer
use Rattle.calls.proofs.settings.date_answer.Symbol as settings-date_answer
use Rattle.calls.proofs.settings.month_answer.Symbol as settings-month_answer
use Rattle.calls.proofs.settings.station_answer.Symbol as settings-station_answer

abbrev pub table : Tree
table = link.table

abbrev pub Below : World → Type 0
Below = link.Below

pub linked-annual-sheet_outside : (W : World) → Holds W "calls" table → Below W → HasT (in_world W) true annual-sheet_outside.code
linked-annual-sheet_outside = link.linked-calls::annual::sheet_outside

pub linked-annual-year_answer : (W : World) → Holds W "calls" table → Below W → HasT (in_world W) true annual-year_answer.code
linked-annual-year_answer = link.linked-calls::annual::year_answer

pub linked-asked-height_answer : (W : World) → Holds W "calls" table → Below W → HasT (in_world W) true asked-height_answer.code
linked-asked-height_answer = link.linked-calls::asked::height_answer

pub linked-asked-series_answer : (W : World) → Holds W "calls" table → Below W → HasT (in_world W) true asked-series_answer.code
linked-asked-series_answer = link.linked-calls::asked::series_answer

pub linked-asked-turns_answer : (W : World) → Holds W "calls" table → Below W → HasT (in_world W) true asked-turns_answer.code
linked-asked-turns_answer = link.linked-calls::asked::turns_answer

pub linked-bookings-bookings_answer : (W : World) → Holds W "calls" table → Below W → HasT (in_world W) true bookings-bookings_answer.code
linked-bookings-bookings_answer = link.linked-calls::bookings::bookings_answer

pub linked-hourcards-hourly_answer : (W : World) → Holds W "calls" table → Below W → HasT (in_world W) true hourcards-hourly_answer.code
linked-hourcards-hourly_answer = link.linked-calls::hourcards::hourly_answer

pub linked-settings-date_answer : (W : World) → Holds W "calls" table → Below W → HasT (in_world W) true settings-date_answer.code
linked-settings-date_answer = link.linked-calls::settings::date_answer

pub linked-settings-month_answer : (W : World) → Holds W "calls" table → Below W → HasT (in_world W) true settings-month_answer.code
linked-settings-month_answer = link.linked-calls::settings::month_answer

pub linked-settings-station_answer : (W : World) → Holds W "calls" table → Below W → HasT (in_world W) true settings-station_answer.code
linked-settings-station_answer = link.linked-calls::settings::station_answer
