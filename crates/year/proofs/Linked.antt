-- What leaves the crate for a link: the table of its functions' code, what the table asks of the crates below, and that a world with both has
-- the code of each function that is called from above. By what the kit generates, which the crate alone can name. Assumes nothing.
use prog.Linked.{Tree, World, Holds, in_world}
use mathlib.Core.Bool.{true}
use prog.LinkedThreads.{HasT}
use Rattle.year.proofs.TheLink as link
use Rattle.year.proofs.months_of.Symbol as months_of
use Rattle.year.proofs.prepare.Symbol as prepare

abbrev pub table : Tree
table = link.table

abbrev pub Below : World → Type 0
Below = link.Below

pub linked-months_of : (W : World) → Holds W "year" table → Below W → HasT (in_world W) true months_of.code
linked-months_of = link.linked-year::months_of

pub linked-prepare : (W : World) → Holds W "year" table → Below W → HasT (in_world W) true prepare.code
linked-prepare = link.linked-year::prepare
