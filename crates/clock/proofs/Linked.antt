-- What leaves the crate for a link: the table of its functions' code, what the table asks of the crates below, and that a world with both has
-- the code of each function that is called from above. By what the kit generates, which the crate alone can name. Assumes nothing.
use prog.Linked.{Tree, World, Holds, in_world}
use mathlib.Core.Bool.{true}
use prog.LinkedThreads.{HasT}
use Rattle.clock.proofs.TheLink as link
use Rattle.clock.proofs.bookings.Symbol as bookings
use Rattle.clock.proofs.bookings_lent.Symbol as bookings_lent
use Rattle.clock.proofs.height.Symbol as height
use Rattle.clock.proofs.height_lent.Symbol as height_lent
use Rattle.clock.proofs.hourly.Symbol as hourly
use Rattle.clock.proofs.load_cards.Symbol as load_cards
use Rattle.clock.proofs.names.Symbol as names
use Rattle.clock.proofs.new.Symbol as new
use Rattle.clock.proofs.place_station.Symbol as place_station
use Rattle.clock.proofs.series.Symbol as series
use Rattle.clock.proofs.set_date.Symbol as set_date
use Rattle.clock.proofs.set_station.Symbol as set_station
use Rattle.clock.proofs.turns.Symbol as turns
use Rattle.clock.proofs.year.Symbol as year

abbrev pub table : Tree
table = link.table

abbrev pub Below : World → Type 0
Below = link.Below

pub linked-bookings : (W : World) → Holds W "clock" table → Below W → HasT (in_world W) true bookings.code
linked-bookings = link.linked-clock::bookings

pub linked-bookings_lent : (W : World) → Holds W "clock" table → Below W → HasT (in_world W) true bookings_lent.code
linked-bookings_lent = link.linked-clock::bookings_lent

pub linked-height : (W : World) → Holds W "clock" table → Below W → HasT (in_world W) true height.code
linked-height = link.linked-clock::height

pub linked-height_lent : (W : World) → Holds W "clock" table → Below W → HasT (in_world W) true height_lent.code
linked-height_lent = link.linked-clock::height_lent

pub linked-hourly : (W : World) → Holds W "clock" table → Below W → HasT (in_world W) true hourly.code
linked-hourly = link.linked-clock::hourly

pub linked-load_cards : (W : World) → Holds W "clock" table → Below W → HasT (in_world W) true load_cards.code
linked-load_cards = link.linked-clock::load_cards

pub linked-names : (W : World) → Holds W "clock" table → Below W → HasT (in_world W) true names.code
linked-names = link.linked-clock::names

pub linked-new : (W : World) → Holds W "clock" table → Below W → HasT (in_world W) true new.code
linked-new = link.linked-clock::new

pub linked-place_station : (W : World) → Holds W "clock" table → Below W → HasT (in_world W) true place_station.code
linked-place_station = link.linked-clock::place_station

pub linked-series : (W : World) → Holds W "clock" table → Below W → HasT (in_world W) true series.code
linked-series = link.linked-clock::series

pub linked-set_date : (W : World) → Holds W "clock" table → Below W → HasT (in_world W) true set_date.code
linked-set_date = link.linked-clock::set_date

pub linked-set_station : (W : World) → Holds W "clock" table → Below W → HasT (in_world W) true set_station.code
linked-set_station = link.linked-clock::set_station

pub linked-turns : (W : World) → Holds W "clock" table → Below W → HasT (in_world W) true turns.code
linked-turns = link.linked-clock::turns

pub linked-year : (W : World) → Holds W "clock" table → Below W → HasT (in_world W) true year.code
linked-year = link.linked-clock::year
