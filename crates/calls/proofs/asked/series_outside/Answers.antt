-- `calls::asked::series_outside` meets its contract: it is outside where a question turns it down. Assumes nothing.
use mathlib.Core.Path.{sym, ◌∙◌}
use Rattle.calls.proofs.reasons.Past.{outside-is}
use Rattle.calls.proofs.asked.series_outside.Goals as goal

pub returns-in-Some : goal.returns-in-Some
returns-in-Some c = outside-is _ _ _ _ c.in-Some.ensures

pub returns-in_default : goal.returns-in_default
returns-in_default c = outside-is _ _ _ _ (sym c.in_default.is ∙ c.series_reason.ensures)
