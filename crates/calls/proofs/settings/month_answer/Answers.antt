-- `calls::settings::month_answer` meets its contract: by the preparation's two cases. Assumes nothing.
use Rattle.calls.proofs.settings.month_answer.Goals as goal

pub returns-in-Ok : goal.returns-in-Ok
returns-in-Ok c = rw c.in-Ok.is

pub returns-in-Err : goal.returns-in-Err
returns-in-Err c = rw c.in-Err.is
