-- What leaves the crate for a link: the table of its functions' code, what the table asks of the crates below, and that a world with both has
-- the code of each function that is called from above. By what the kit generates, which the crate alone can name. Assumes nothing.
use prog.Linked.{Tree, World, Holds, in_world}
use mathlib.Core.Bool.{true}
use prog.LinkedThreads.{HasT}
use Rattle.card_constituents.proofs.TheLink as link
use Rattle.card_constituents.proofs.constituents.constituent_reader.Symbol as constituents-constituent_reader

abbrev pub table : Tree
table = link.table

abbrev pub Below : World → Type 0
Below = link.Below

pub linked-constituents-constituent_reader : (W : World) → Holds W "card_constituents" table → Below W → HasT (in_world W) true constituents-constituent_reader.code
linked-constituents-constituent_reader = link.linked-card_constituents::constituents::constituent_reader
