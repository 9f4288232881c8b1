-- What leaves the crate for a link: the table of its functions' code, what the table asks of the crates below, and that a world with both has
-- the code of each function that is called from above. By what the kit generates, which the crate alone can name. Assumes nothing.
use prog.Linked.{Tree, World, Holds, in_world}
use mathlib.Core.Bool.{true}
use prog.LinkedThreads.{HasT}
use Rattle.card_frequencies.proofs.TheLink as link
use Rattle.card_frequencies.proofs.frequencies.read_frequencies.Symbol as frequencies-read_frequencies
use Rattle.card_frequencies.proofs.longitudes.read_five.Symbol as longitudes-read_five

abbrev pub table : Tree
table = link.table

abbrev pub Below : World → Type 0
Below = link.Below

pub linked-frequencies-read_frequencies : (W : World) → Holds W "card_frequencies" table → Below W → HasT (in_world W) true frequencies-read_frequencies.code
linked-frequencies-read_frequencies = link.linked-card_frequencies::frequencies::read_frequencies

pub linked-longitudes-read_five : (W : World) → Holds W "card_frequencies" table → Below W → HasT (in_world W) true longitudes-read_five.code
linked-longitudes-read_five = link.linked-card_frequencies::longitudes::read_five
