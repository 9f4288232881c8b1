-- What is wrong with a card file: by where its reading ended.
use mathlib.Core.Path.{ap}
use Rattle.card_file.specs.inner.Read.{check_of}
use Rattle.card_file.proofs.reader.check_of.Goals as goal

pub returns-in-Ok : goal.returns-in-Ok
returns-in-Ok c =
    ap check_of c.in-Ok.ensures

pub returns-in-Err : goal.returns-in-Err
returns-in-Err c =
    ap check_of c.in-Err.ensures
