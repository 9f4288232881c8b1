-- What leaves the crate for a link: the table of its functions' code, what the table asks of the crates below, and that a world with both has
-- the code of each function that is called from above. By what the kit generates, which the crate alone can name. Assumes nothing.
use prog.Linked.{Tree, World, Holds, in_world}
use mathlib.Core.Bool.{true}
use prog.LinkedThreads.{HasT}
use Rattle.month_satellites.proofs.TheLink as link
use Rattle.month_satellites.proofs.latitude.latitude_factors.Symbol as latitude-latitude_factors
use Rattle.month_satellites.proofs.satellites.main_sum.Symbol as satellites-main_sum

abbrev pub table : Tree
table = link.table

abbrev pub Below : World → Type 0
Below = link.Below

pub linked-latitude-latitude_factors : (W : World) → Holds W "month_satellites" table → Below W → HasT (in_world W) true latitude-latitude_factors.code
linked-latitude-latitude_factors = link.linked-month_satellites::latitude::latitude_factors

pub linked-satellites-main_sum : (W : World) → Holds W "month_satellites" table → Below W → HasT (in_world W) true satellites-main_sum.code
linked-satellites-main_sum = link.linked-month_satellites::satellites::main_sum
