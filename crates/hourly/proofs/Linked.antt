-- What leaves the crate for a link: the table of its functions' code, what the table asks of the crates below, and that a world with both has
-- the code of each function that is called from above. By what the kit generates, which the crate alone can name. Assumes nothing.
use prog.Linked.{Tree, World, Holds, in_world}
use mathlib.Core.Bool.{true}
use prog.LinkedThreads.{HasT}
use Rattle.hourly.proofs.TheLink as link
use Rattle.hourly.proofs.write_cards.Symbol as write_cards

abbrev pub table : Tree
table = link.table

abbrev pub Below : World → Type 0
Below = link.Below

pub linked-write_cards : (W : World) → Holds W "hourly" table → Below W → HasT (in_world W) true write_cards.code
linked-write_cards = link.linked-hourly::write_cards
