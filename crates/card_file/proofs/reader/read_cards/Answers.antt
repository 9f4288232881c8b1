-- The answer of a card file: by where its reading ended.
use mathlib.Core.Path.{ap}
use Rattle.card_file.specs.Cards.{outcome_in, cards_outcome}
use Rattle.card_file.proofs.reader.read_cards.Goals as goal

pub returns-in-Ok : goal.returns-in-Ok
unfolding cards_outcome
returns-in-Ok c =
    ap outcome_in c.in-Ok.ensures

pub returns-in-Err : goal.returns-in-Err
unfolding cards_outcome
returns-in-Err c =
    rw (c.at.ensures, c.refusal_for.ensures) (ap outcome_in c.in-Err.ensures)
