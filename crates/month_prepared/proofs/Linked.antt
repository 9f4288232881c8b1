-- What leaves the crate for a link: the table of its functions' code, what the table asks of the crates below, and that a world with both has
-- the code of each function that is called from above. By what the kit generates, which the crate alone can name. Assumes nothing.
use prog.Linked.{Tree, World, Holds, in_world}
use mathlib.Core.Bool.{true}
use prog.LinkedThreads.{HasT}
use Rattle.month_prepared.proofs.TheLink as link
use Rattle.month_prepared.proofs.held.Symbol as held
use Rattle.month_prepared.proofs.months.one_month.Symbol as months-one_month
use Rattle.month_prepared.proofs.months.owner.Symbol as months-owner
use Rattle.month_prepared.proofs.no_constituents.Symbol as no_constituents

abbrev pub table : Tree
table = link.table

abbrev pub Below : World → Type 0
Below = link.Below

pub linked-held : (W : World) → Holds W "month_prepared" table → Below W → HasT (in_world W) true held.code
linked-held = link.linked-month_prepared::held

pub linked-months-one_month : (W : World) → Holds W "month_prepared" table → Below W → HasT (in_world W) true months-one_month.code
linked-months-one_month = link.linked-month_prepared::months::one_month

pub linked-months-owner : (W : World) → Holds W "month_prepared" table → Below W → HasT (in_world W) true months-owner.code
linked-months-owner = link.linked-month_prepared::months::owner

pub linked-no_constituents : (W : World) → Holds W "month_prepared" table → Below W → HasT (in_world W) true no_constituents.code
linked-no_constituents = link.linked-month_prepared::no_constituents
