-- What leaves the crate for a link: the table of its functions' code, what the table asks of the crates below, and that a world with both has
-- the code of each function that is called from above. By what the kit generates, which the crate alone can name. Assumes nothing.
use prog.Linked.{Tree, World, Holds, in_world}
use mathlib.Core.Bool.{true}
use prog.LinkedThreads.{HasT}
use Rattle.calendar.proofs.TheLink as link
use Rattle.calendar.proofs.day_count.Symbol as day_count
use Rattle.calendar.proofs.in_range.Symbol as in_range
use Rattle.calendar.proofs.month_days.Symbol as month_days
use Rattle.calendar.proofs.month_minutes.Symbol as month_minutes
use Rattle.calendar.proofs.year_in_range.Symbol as year_in_range
use Rattle.calendar.proofs.year_minutes.Symbol as year_minutes

abbrev pub table : Tree
table = link.table

abbrev pub Below : World → Type 0
Below = link.Below

pub linked-day_count : (W : World) → Holds W "calendar" table → Below W → HasT (in_world W) true day_count.code
linked-day_count = link.linked-calendar::day_count

pub linked-in_range : (W : World) → Holds W "calendar" table → Below W → HasT (in_world W) true in_range.code
linked-in_range = link.linked-calendar::in_range

pub linked-month_days : (W : World) → Holds W "calendar" table → Below W → HasT (in_world W) true month_days.code
linked-month_days = link.linked-calendar::month_days

pub linked-month_minutes : (W : World) → Holds W "calendar" table → Below W → HasT (in_world W) true month_minutes.code
linked-month_minutes = link.linked-calendar::month_minutes

pub linked-year_in_range : (W : World) → Holds W "calendar" table → Below W → HasT (in_world W) true year_in_range.code
linked-year_in_range = link.linked-calendar::year_in_range

pub linked-year_minutes : (W : World) → Holds W "calendar" table → Below W → HasT (in_world W) true year_minutes.code
linked-year_minutes = link.linked-calendar::year_minutes
