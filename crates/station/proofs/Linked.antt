-- What leaves the crate for a link: the table of its functions' code, what the table asks of the crates below, and that a world with both has
-- the code of each function that is called from above. By what the kit generates, which the crate alone can name. Assumes nothing.
use prog.Linked.{Tree, World, Holds, in_world}
use mathlib.Core.Bool.{true}
use prog.LinkedThreads.{HasT}
use Rattle.station.proofs.TheLink as link
use Rattle.station.proofs.no_station.Symbol as no_station
use Rattle.station.proofs.records.rows_of.Symbol as records-rows_of
use Rattle.station.proofs.strides.usual.Symbol as strides-usual
use Rattle.station.proofs.take_station.Symbol as take_station

abbrev pub table : Tree
table = link.table

abbrev pub Below : World → Type 0
Below = link.Below

pub linked-no_station : (W : World) → Holds W "station" table → Below W → HasT (in_world W) true no_station.code
linked-no_station = link.linked-station::no_station

pub linked-records-rows_of : (W : World) → Holds W "station" table → Below W → HasT (in_world W) true records-rows_of.code
linked-records-rows_of = link.linked-station::records::rows_of

pub linked-strides-usual : (W : World) → Holds W "station" table → Below W → HasT (in_world W) true strides-usual.code
linked-strides-usual = link.linked-station::strides::usual

pub linked-take_station : (W : World) → Holds W "station" table → Below W → HasT (in_world W) true take_station.code
linked-take_station = link.linked-station::take_station
