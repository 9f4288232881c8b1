-- What leaves the crate for a link: the table of its functions' code, what the table asks of the crates below, and that a world with both has
-- the code of each function that is called from above. By what the kit generates, which the crate alone can name. Assumes nothing.
use prog.Linked.{Tree, World, Holds, in_world}
use mathlib.Core.Bool.{true}
use prog.LinkedThreads.{HasT}
use Rattle.columns.proofs.TheLink as link
use Rattle.columns.proofs.all_among.Symbol as all_among
use Rattle.columns.proofs.column.Symbol as column
use Rattle.columns.proofs.first_line.Symbol as first_line
use Rattle.columns.proofs.is_blank.Symbol as is_blank
use Rattle.columns.proofs.line_good.Symbol as line_good
use Rattle.columns.proofs.names.find_name.Symbol as names-find_name
use Rattle.columns.proofs.names.name_blank.Symbol as names-name_blank
use Rattle.columns.proofs.names.name_part.Symbol as names-name_part
use Rattle.columns.proofs.part.Symbol as part
use Rattle.columns.proofs.rest_lines.Symbol as rest_lines
use Rattle.columns.proofs.run_end.Symbol as run_end

abbrev pub table : Tree
table = link.table

abbrev pub Below : World → Type 0
Below = link.Below

pub linked-all_among : (W : World) → Holds W "columns" table → Below W → HasT (in_world W) true all_among.code
linked-all_among = link.linked-columns::all_among

pub linked-column : (W : World) → Holds W "columns" table → Below W → HasT (in_world W) true column.code
linked-column = link.linked-columns::column

pub linked-first_line : (W : World) → Holds W "columns" table → Below W → HasT (in_world W) true first_line.code
linked-first_line = link.linked-columns::first_line

pub linked-is_blank : (W : World) → Holds W "columns" table → Below W → HasT (in_world W) true is_blank.code
linked-is_blank = link.linked-columns::is_blank

pub linked-line_good : (W : World) → Holds W "columns" table → Below W → HasT (in_world W) true line_good.code
linked-line_good = link.linked-columns::line_good

pub linked-names-find_name : (W : World) → Holds W "columns" table → Below W → HasT (in_world W) true names-find_name.code
linked-names-find_name = link.linked-columns::names::find_name

pub linked-names-name_blank : (W : World) → Holds W "columns" table → Below W → HasT (in_world W) true names-name_blank.code
linked-names-name_blank = link.linked-columns::names::name_blank

pub linked-names-name_part : (W : World) → Holds W "columns" table → Below W → HasT (in_world W) true names-name_part.code
linked-names-name_part = link.linked-columns::names::name_part

pub linked-part : (W : World) → Holds W "columns" table → Below W → HasT (in_world W) true part.code
linked-part = link.linked-columns::part

pub linked-rest_lines : (W : World) → Holds W "columns" table → Below W → HasT (in_world W) true rest_lines.code
linked-rest_lines = link.linked-columns::rest_lines

pub linked-run_end : (W : World) → Holds W "columns" table → Below W → HasT (in_world W) true run_end.code
linked-run_end = link.linked-columns::run_end
