-- What leaves the crate for a link: the table of its functions' code, what the table asks of the crates below, and that a world with both has
-- the code of each function that is called from above. By what the kit generates, which the crate alone can name. Assumes nothing.
use prog.Linked.{Tree, World, Holds, in_world}
use mathlib.Core.Bool.{true}
use prog.LinkedThreads.{HasT}
use Rattle.month_pairs.proofs.TheLink as link
use Rattle.month_pairs.proofs.nodal.pair_at.Symbol as nodal-pair_at
use Rattle.month_pairs.proofs.nodal.shallow_pair.Symbol as nodal-shallow_pair

abbrev pub table : Tree
table = link.table

abbrev pub Below : World → Type 0
Below = link.Below

pub linked-nodal-pair_at : (W : World) → Holds W "month_pairs" table → Below W → HasT (in_world W) true nodal-pair_at.code
linked-nodal-pair_at = link.linked-month_pairs::nodal::pair_at

pub linked-nodal-shallow_pair : (W : World) → Holds W "month_pairs" table → Below W → HasT (in_world W) true nodal-shallow_pair.code
linked-nodal-shallow_pair = link.linked-month_pairs::nodal::shallow_pair
