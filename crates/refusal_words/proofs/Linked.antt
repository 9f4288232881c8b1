-- What leaves the crate for a link: the table of its functions' code, what the table asks of the crates below, and that a world with both has
-- the code of each function that is called from above. By what the kit generates, which the crate alone can name. Assumes nothing.
use prog.Linked.{Tree, World, Holds, in_world}
use mathlib.Core.Bool.{true}
use prog.LinkedThreads.{HasT}
use Rattle.refusal_words.proofs.TheLink as link
use Rattle.refusal_words.proofs.text_of.Symbol as text_of

abbrev pub table : Tree
table = link.table

abbrev pub Below : World → Type 0
Below = link.Below

pub linked-text_of : (W : World) → Holds W "refusal_words" table → Below W → HasT (in_world W) true text_of.code
linked-text_of = link.linked-refusal_words::text_of
