-- What leaves the crate for a link: the table of its functions' code, what the table asks of the crates below, and that a world with both has
-- the code of each function that is called from above. By what the kit generates, which the crate alone can name. Assumes nothing.
use prog.Linked.{Tree, World, Holds, in_world}
use mathlib.Core.Bool.{true}
use prog.LinkedThreads.{HasT}
use Rattle.card_mains.proofs.TheLink as link
use Rattle.card_mains.proofs.mains.next_main.Symbol as mains-next_main
use Rattle.card_mains.proofs.satellitecard.at_most_three.Symbol as satellitecard-at_most_three
use Rattle.card_mains.proofs.satellitecard.satellite_card.Symbol as satellitecard-satellite_card

abbrev pub table : Tree
table = link.table

abbrev pub Below : World → Type 0
Below = link.Below

pub linked-mains-next_main : (W : World) → Holds W "card_mains" table → Below W → HasT (in_world W) true mains-next_main.code
linked-mains-next_main = link.linked-card_mains::mains::next_main

pub linked-satellitecard-at_most_three : (W : World) → Holds W "card_mains" table → Below W → HasT (in_world W) true satellitecard-at_most_three.code
linked-satellitecard-at_most_three = link.linked-card_mains::satellitecard::at_most_three

pub linked-satellitecard-satellite_card : (W : World) → Holds W "card_mains" table → Below W → HasT (in_world W) true satellitecard-satellite_card.code
linked-satellitecard-satellite_card = link.linked-card_mains::satellitecard::satellite_card
