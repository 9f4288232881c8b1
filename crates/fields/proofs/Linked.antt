-- What leaves the crate for a link: the table of its functions' code, what the table asks of the crates below, and that a world with both has
-- the code of each function that is called from above. By what the kit generates, which the crate alone can name. Assumes nothing.
use prog.Linked.{Tree, World, Holds, in_world}
use mathlib.Core.Bool.{true}
use prog.LinkedThreads.{HasT}
use Rattle.fields.proofs.TheLink as link
use Rattle.fields.proofs.narrow_field.Symbol as narrow_field
use Rattle.fields.proofs.ranged_field.Symbol as ranged_field

abbrev pub table : Tree
table = link.table

abbrev pub Below : World → Type 0
Below = link.Below

pub linked-narrow_field : (W : World) → Holds W "fields" table → Below W → HasT (in_world W) true narrow_field.code
linked-narrow_field = link.linked-fields::narrow_field

pub linked-ranged_field : (W : World) → Holds W "fields" table → Below W → HasT (in_world W) true ranged_field.code
linked-ranged_field = link.linked-fields::ranged_field
