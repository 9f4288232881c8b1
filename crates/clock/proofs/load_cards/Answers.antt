-- `clock::load_cards` meets its contract: a card file's two cases (`CardsCase`). Assumes nothing.
use Rattle.clock.proofs.CardsCase.{cards-accepted, cards-refused}
use Rattle.clock.proofs.load_cards.Goals as goal

pub returns-in-Ok : goal.returns-in-Ok
returns-in-Ok c = cards-accepted c.args.clock c.args.file.now c.requires c.in-Ok.table c.in-Ok.ensures _ c.bare.ensures

pub returns-in-Err : goal.returns-in-Err
returns-in-Err c = cards-refused c.args.clock c.args.file.now c.requires _ _ c.in-Err.ensures
