-- What leaves the crate for a link: the table of its functions' code, what the table asks of the crates below, and that a world with both has
-- the code of each function that is called from above. By what the kit generates, which the crate alone can name. Assumes nothing.
use prog.Linked.{Tree, World, Holds, in_world}
use mathlib.Core.Bool.{true}
use prog.LinkedThreads.{HasT}
use Rattle.table.proofs.TheLink as link
use Rattle.table.proofs.at.Symbol as at
use Rattle.table.proofs.definitions.find.Symbol as definitions-find
use Rattle.table.proofs.definitions.first_rows.Symbol as definitions-first_rows
use Rattle.table.proofs.entries.entry_at.Symbol as entries-entry_at
use Rattle.table.proofs.no_cards.Symbol as no_cards
use Rattle.table.proofs.put_i8.Symbol as put_i8
use Rattle.table.proofs.put_u16.Symbol as put_u16
use Rattle.table.proofs.put_u32.Symbol as put_u32

abbrev pub table : Tree
table = link.table

abbrev pub Below : World → Type 0
Below = link.Below

pub linked-at : (W : World) → Holds W "table" table → Below W → HasT (in_world W) true at.code
linked-at = link.linked-table::at

pub linked-definitions-find : (W : World) → Holds W "table" table → Below W → HasT (in_world W) true definitions-find.code
linked-definitions-find = link.linked-table::definitions::find

pub linked-definitions-first_rows : (W : World) → Holds W "table" table → Below W → HasT (in_world W) true definitions-first_rows.code
linked-definitions-first_rows = link.linked-table::definitions::first_rows

pub linked-entries-entry_at : (W : World) → Holds W "table" table → Below W → HasT (in_world W) true entries-entry_at.code
linked-entries-entry_at = link.linked-table::entries::entry_at

pub linked-no_cards : (W : World) → Holds W "table" table → Below W → HasT (in_world W) true no_cards.code
linked-no_cards = link.linked-table::no_cards

pub linked-put_i8 : (W : World) → Holds W "table" table → Below W → HasT (in_world W) true put_i8.code
linked-put_i8 = link.linked-table::put_i8

pub linked-put_u16 : (W : World) → Holds W "table" table → Below W → HasT (in_world W) true put_u16.code
linked-put_u16 = link.linked-table::put_u16

pub linked-put_u32 : (W : World) → Holds W "table" table → Below W → HasT (in_world W) true put_u32.code
linked-put_u32 = link.linked-table::put_u32
