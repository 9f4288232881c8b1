-- Only inner contracts cite this: what the code's answers on a card stand for in 01's terms.
use Rattle.std.specs.Prelude.{Result, Ok, Err}
use Rattle.refusals.specs.Checked.{good, bad}
use Rattle.card.specs.Card.{Card}
use Rattle.card.specs.declared.faults.Fault.{Fault}

-- what was read of a card, as `means` has it, unless it has a fault
abbrev pub card_gives : {A B : Type 0} → (A → B) → Result A Fault → Card B
card_gives means (Ok a) = good (means a)
card_gives means (Err fault) = bad fault
