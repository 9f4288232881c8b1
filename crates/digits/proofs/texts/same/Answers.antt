-- `digits::texts::same` meets its contract: the library's `==` of two texts is `same`. Assumes nothing.
use mathlib.Core.Path.{◌∙◌}
use Rattle.digits.proofs.texts.Texts.{pointwise-same}
use Rattle.digits.proofs.texts.same.Goals as goal

pub returns : goal.returns
returns c = c.eq.ensures ∙ pointwise-same c.args.a.now c.args.b.now
