-- What leaves the crate for a link: the table of its functions' code, what the table asks of the crates below, and that a world with both has
-- the code of each function that is called from above. By what the kit generates, which the crate alone can name. Assumes nothing.
use prog.Linked.{Tree, World, Holds, in_world}
use mathlib.Core.Bool.{true}
use prog.LinkedThreads.{HasT}
use Rattle.cuvalimodo_c.proofs.TheLink as link
use Rattle.cuvalimodo_c.proofs.cuvalimodo_bookings.Symbol as cuvalimodo_bookings
use Rattle.cuvalimodo_c.proofs.cuvalimodo_height.Symbol as cuvalimodo_height
use Rattle.cuvalimodo_c.proofs.cuvalimodo_hourly.Symbol as cuvalimodo_hourly
use Rattle.cuvalimodo_c.proofs.cuvalimodo_load_cards.Symbol as cuvalimodo_load_cards
use Rattle.cuvalimodo_c.proofs.cuvalimodo_names.Symbol as cuvalimodo_names
use Rattle.cuvalimodo_c.proofs.cuvalimodo_new.Symbol as cuvalimodo_new
use Rattle.cuvalimodo_c.proofs.cuvalimodo_series.Symbol as cuvalimodo_series
use Rattle.cuvalimodo_c.proofs.cuvalimodo_set_date.Symbol as cuvalimodo_set_date
use Rattle.cuvalimodo_c.proofs.cuvalimodo_set_station.Symbol as cuvalimodo_set_station
use Rattle.cuvalimodo_c.proofs.cuvalimodo_turns.Symbol as cuvalimodo_turns
use Rattle.cuvalimodo_c.proofs.cuvalimodo_year.Symbol as cuvalimodo_year

abbrev pub table : Tree
table = link.table

abbrev pub Below : World → Type 0
Below = link.Below

pub linked-cuvalimodo_bookings : (W : World) → Holds W "cuvalimodo_c" table → Below W → HasT (in_world W) true cuvalimodo_bookings.code
linked-cuvalimodo_bookings = link.linked-cuvalimodo_c::cuvalimodo_bookings

pub linked-cuvalimodo_height : (W : World) → Holds W "cuvalimodo_c" table → Below W → HasT (in_world W) true cuvalimodo_height.code
linked-cuvalimodo_height = link.linked-cuvalimodo_c::cuvalimodo_height

pub linked-cuvalimodo_hourly : (W : World) → Holds W "cuvalimodo_c" table → Below W → HasT (in_world W) true cuvalimodo_hourly.code
linked-cuvalimodo_hourly = link.linked-cuvalimodo_c::cuvalimodo_hourly

pub linked-cuvalimodo_load_cards : (W : World) → Holds W "cuvalimodo_c" table → Below W → HasT (in_world W) true cuvalimodo_load_cards.code
linked-cuvalimodo_load_cards = link.linked-cuvalimodo_c::cuvalimodo_load_cards

pub linked-cuvalimodo_names : (W : World) → Holds W "cuvalimodo_c" table → Below W → HasT (in_world W) true cuvalimodo_names.code
linked-cuvalimodo_names = link.linked-cuvalimodo_c::cuvalimodo_names

pub linked-cuvalimodo_new : (W : World) → Holds W "cuvalimodo_c" table → Below W → HasT (in_world W) true cuvalimodo_new.code
linked-cuvalimodo_new = link.linked-cuvalimodo_c::cuvalimodo_new

pub linked-cuvalimodo_series : (W : World) → Holds W "cuvalimodo_c" table → Below W → HasT (in_world W) true cuvalimodo_series.code
linked-cuvalimodo_series = link.linked-cuvalimodo_c::cuvalimodo_series

pub linked-cuvalimodo_set_date : (W : World) → Holds W "cuvalimodo_c" table → Below W → HasT (in_world W) true cuvalimodo_set_date.code
linked-cuvalimodo_set_date = link.linked-cuvalimodo_c::cuvalimodo_set_date

pub linked-cuvalimodo_set_station : (W : World) → Holds W "cuvalimodo_c" table → Below W → HasT (in_world W) true cuvalimodo_set_station.code
linked-cuvalimodo_set_station = link.linked-cuvalimodo_c::cuvalimodo_set_station

pub linked-cuvalimodo_turns : (W : World) → Holds W "cuvalimodo_c" table → Below W → HasT (in_world W) true cuvalimodo_turns.code
linked-cuvalimodo_turns = link.linked-cuvalimodo_c::cuvalimodo_turns

pub linked-cuvalimodo_year : (W : World) → Holds W "cuvalimodo_c" table → Below W → HasT (in_world W) true cuvalimodo_year.code
linked-cuvalimodo_year = link.linked-cuvalimodo_c::cuvalimodo_year
