-- What leaves the crate for a link: the table of its functions' code, what the table asks of the crates below, and that a world with both has
-- the code of each function that is called from above. By what the kit generates, which the crate alone can name. Assumes nothing.
use prog.Linked.{Tree, World, Holds, in_world}
use mathlib.Core.Bool.{true}
use prog.LinkedThreads.{HasT}
use Rattle.turns.proofs.TheLink as link
use Rattle.turns.proofs.strides.station_stride.Symbol as strides-station_stride
use Rattle.turns.proofs.turns.Symbol as turns

abbrev pub table : Tree
table = link.table

abbrev pub Below : World → Type 0
Below = link.Below

pub linked-strides-station_stride : (W : World) → Holds W "turns" table → Below W → HasT (in_world W) true strides-station_stride.code
linked-strides-station_stride = link.linked-turns::strides::station_stride

pub linked-turns : (W : World) → Holds W "turns" table → Below W → HasT (in_world W) true turns.code
linked-turns = link.linked-turns::turns
