-- What leaves the crate for a link: the table of its functions' code, what the table asks of the crates below, and that a world with both has
-- the code of each function that is called from above. By what the kit generates, which the crate alone can name. Assumes nothing.
use prog.Linked.{Tree, World, Holds, in_world}
use mathlib.Core.Bool.{true}
use prog.LinkedThreads.{HasT}
use Rattle.refusals.proofs.TheLink as link
use Rattle.refusals.proofs.Refusal.at.Symbol as Refusal-at
use Rattle.refusals.proofs.number_of.Symbol as number_of

abbrev pub table : Tree
table = link.table

abbrev pub Below : World → Type 0
Below = link.Below

pub linked-Refusal-at : (W : World) → Holds W "refusals" table → Below W → HasT (in_world W) true Refusal-at.code
linked-Refusal-at = link.linked-refusals::Refusal::at

pub linked-number_of : (W : World) → Holds W "refusals" table → Below W → HasT (in_world W) true number_of.code
linked-number_of = link.linked-refusals::number_of
