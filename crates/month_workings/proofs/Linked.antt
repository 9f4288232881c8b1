-- What leaves the crate for a link: the table of its functions' code, what the table asks of the crates below, and that a world with both has
-- the code of each function that is called from above. By what the kit generates, which the crate alone can name. Assumes nothing.
use prog.Linked.{Tree, World, Holds, in_world}
use mathlib.Core.Bool.{true}
use prog.LinkedThreads.{HasT}
use Rattle.month_workings.proofs.TheLink as link
use Rattle.month_workings.proofs.worked.from_mains.Symbol as worked-from_mains
use Rattle.month_workings.proofs.worked.work_mains.Symbol as worked-work_mains
use Rattle.month_workings.proofs.workings.none_kept.Symbol as workings-none_kept

abbrev pub table : Tree
table = link.table

abbrev pub Below : World → Type 0
Below = link.Below

pub linked-worked-from_mains : (W : World) → Holds W "month_workings" table → Below W → HasT (in_world W) true worked-from_mains.code
linked-worked-from_mains = link.linked-month_workings::worked::from_mains

pub linked-worked-work_mains : (W : World) → Holds W "month_workings" table → Below W → HasT (in_world W) true worked-work_mains.code
linked-worked-work_mains = link.linked-month_workings::worked::work_mains

pub linked-workings-none_kept : (W : World) → Holds W "month_workings" table → Below W → HasT (in_world W) true workings-none_kept.code
linked-workings-none_kept = link.linked-month_workings::workings::none_kept
