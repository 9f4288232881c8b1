-- What leaves the crate for a link: the table of its functions' code, what the table asks of the crates below, and that a world with both has
-- the code of each function that is called from above. By what the kit generates, which the crate alone can name. Assumes nothing.
use prog.Linked.{Tree, World, Holds, in_world}
use mathlib.Core.Bool.{true}
use prog.LinkedThreads.{HasT}
use Rattle.card_file.proofs.TheLink as link
use Rattle.card_file.proofs.counts.check_cards.Symbol as counts-check_cards
use Rattle.card_file.proofs.reader.read_cards.Symbol as reader-read_cards

abbrev pub table : Tree
table = link.table

abbrev pub Below : World → Type 0
Below = link.Below

pub linked-counts-check_cards : (W : World) → Holds W "card_file" table → Below W → HasT (in_world W) true counts-check_cards.code
linked-counts-check_cards = link.linked-card_file::counts::check_cards

pub linked-reader-read_cards : (W : World) → Holds W "card_file" table → Below W → HasT (in_world W) true reader-read_cards.code
linked-reader-read_cards = link.linked-card_file::reader::read_cards
