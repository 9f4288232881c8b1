-- `card_constituents::constituents::ended` meets its contract: the one fault that it passes on.
use Rattle.card_constituents.proofs.constituents.ended.Goals as goal

pub returns : goal.returns
returns c =
    rw c.only.ensures at c.refused.ensures
