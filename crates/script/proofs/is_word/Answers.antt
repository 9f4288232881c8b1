-- `script::is_word` meets its contract: the library's `==` of two words is `same`. Assumes nothing.
use mathlib.Core.Path.{◌∙◌}
use Rattle.script.proofs.Same.{pointwise-same}
use Rattle.script.proofs.is_word.Goals as goal

pub returns : goal.returns
returns c = c.eq.ensures ∙ pointwise-same c.args.word.now c.args.name.now
