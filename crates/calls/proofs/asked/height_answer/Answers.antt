-- `calls::asked::height_answer` meets its contract, by the definition. Assumes nothing.
use Rattle.calls.proofs.asked.height_answer.Goals as goal

pub returns : goal.returns
returns c =
    c.minutes_answer.ensures
