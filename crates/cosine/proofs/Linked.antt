-- What leaves the crate for a link: the table of its functions' code, what the table asks of the crates below, and that a world with both has
-- the code of each function that is called from above. By what the kit generates, which the crate alone can name. Assumes nothing.
use prog.Linked.{Tree, World, Holds, in_world}
use mathlib.Core.Bool.{true}
use prog.LinkedThreads.{HasT}
use Rattle.cosine.proofs.TheLink as link
use Rattle.cosine.proofs.cosines.Symbol as cosines
use Rattle.cosine.proofs.wave.Symbol as wave

abbrev pub table : Tree
table = link.table

abbrev pub Below : World → Type 0
Below = link.Below

pub linked-cosines : (W : World) → Holds W "cosine" table → Below W → HasT (in_world W) true cosines.code
linked-cosines = link.linked-cosine::cosines

pub linked-wave : (W : World) → Holds W "cosine" table → Below W → HasT (in_world W) true wave.code
linked-wave = link.linked-cosine::wave
