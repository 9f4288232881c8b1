-- `calls::asked::turns_answer` meets its contract, by the definition. Assumes nothing.
use mathlib.Core.Path.{ap, ◌∙◌}
use Rattle.calls.specs.inner.Flags.{minutes_by}
use Rattle.calls.proofs.asked.turns_answer.Goals as goal

pub returns : goal.returns
returns c =
    c.minutes_answer.ensures ∙ ap (minutes_by c.args.there.tabled c.args.there.stationed c.args.there.dated) c.turns_outside.ensures
