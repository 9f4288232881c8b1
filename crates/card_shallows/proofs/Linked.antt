-- What leaves the crate for a link: the table of its functions' code, what the table asks of the crates below, and that a world with both has
-- the code of each function that is called from above. By what the kit generates, which the crate alone can name. Assumes nothing.
use prog.Linked.{Tree, World, Holds, in_world}
use mathlib.Core.Bool.{true}
use prog.LinkedThreads.{HasT}
use Rattle.card_shallows.proofs.TheLink as link
use Rattle.card_shallows.proofs.shallows.read_shallows.Symbol as shallows-read_shallows

abbrev pub table : Tree
table = link.table

abbrev pub Below : World → Type 0
Below = link.Below

pub linked-shallows-read_shallows : (W : World) → Holds W "card_shallows" table → Below W → HasT (in_world W) true shallows-read_shallows.code
linked-shallows-read_shallows = link.linked-card_shallows::shallows::read_shallows
