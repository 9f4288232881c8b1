-- 02, No. 6: "A stride of 1 whose ends differ is not cut." By computing. Assumes nothing.
use mathlib.Core.Path.{refl}
use Rattle.turns.specs.Cuts.{cut_from}
use Rattle.turns.specs.Search.{UncutAtOne}

pub uncut-at-one : UncutAtOne
unfolding cut_from
uncut-at-one slope minute = (refl, refl)
