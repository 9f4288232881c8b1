-- `month_prepared::no_constituents` meets its contract: by computing.
use mathlib.Core.Path.{refl}
use Rattle.month_prepared.specs.inner.View.{constituents_after}
use Rattle.month_prepared.proofs.no_constituents.Goals as goal

pub returns : goal.returns
unfolding constituents_after
returns c =
    refl
