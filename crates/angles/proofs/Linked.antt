-- What leaves the crate for a link: the table of its functions' code, what the table asks of the crates below, and that a world with both has
-- the code of each function that is called from above. By what the kit generates, which the crate alone can name. Assumes nothing.
use prog.Linked.{Tree, World, Holds, in_world}
use mathlib.Core.Bool.{true}
use prog.LinkedThreads.{HasT}
use Rattle.angles.proofs.TheLink as link
use Rattle.angles.proofs.floor_div.Symbol as floor_div
use Rattle.angles.proofs.mod_turn.Symbol as mod_turn
use Rattle.angles.proofs.size.Symbol as size

abbrev pub table : Tree
table = link.table

abbrev pub Below : World → Type 0
Below = link.Below

pub linked-floor_div : (W : World) → Holds W "angles" table → Below W → HasT (in_world W) true floor_div.code
linked-floor_div = link.linked-angles::floor_div

pub linked-mod_turn : (W : World) → Holds W "angles" table → Below W → HasT (in_world W) true mod_turn.code
linked-mod_turn = link.linked-angles::mod_turn

pub linked-size : (W : World) → Holds W "angles" table → Below W → HasT (in_world W) true size.code
linked-size = link.linked-angles::size
