-- What leaves the crate for a link: the table of its functions' code, what the table asks of the crates below, and that a world with both has
-- the code of each function that is called from above. By what the kit generates, which the crate alone can name. Assumes nothing.
use prog.Linked.{Tree, World, Holds, in_world}
use mathlib.Core.Bool.{true}
use prog.LinkedThreads.{HasT}
use Rattle.month_arguments.proofs.TheLink as link
use Rattle.month_arguments.proofs.arguments.argument_at.Symbol as arguments-argument_at
use Rattle.month_arguments.proofs.arguments.main_argument.Symbol as arguments-main_argument
use Rattle.month_arguments.proofs.arguments.shallow_argument.Symbol as arguments-shallow_argument
use Rattle.month_arguments.proofs.astronomy.longitudes_on.Symbol as astronomy-longitudes_on

abbrev pub table : Tree
table = link.table

abbrev pub Below : World → Type 0
Below = link.Below

pub linked-arguments-argument_at : (W : World) → Holds W "month_arguments" table → Below W → HasT (in_world W) true arguments-argument_at.code
linked-arguments-argument_at = link.linked-month_arguments::arguments::argument_at

pub linked-arguments-main_argument : (W : World) → Holds W "month_arguments" table → Below W → HasT (in_world W) true arguments-main_argument.code
linked-arguments-main_argument = link.linked-month_arguments::arguments::main_argument

pub linked-arguments-shallow_argument : (W : World) → Holds W "month_arguments" table → Below W → HasT (in_world W) true arguments-shallow_argument.code
linked-arguments-shallow_argument = link.linked-month_arguments::arguments::shallow_argument

pub linked-astronomy-longitudes_on : (W : World) → Holds W "month_arguments" table → Below W → HasT (in_world W) true astronomy-longitudes_on.code
linked-astronomy-longitudes_on = link.linked-month_arguments::astronomy::longitudes_on
