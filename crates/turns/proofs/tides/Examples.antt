-- 01, "Checked against": "K1+O1 against M2+S2: .. 300, 100 gives 30; 0, 0 gives 180" (the starred strides are in crate claim).
-- By computing. Assumes nothing.
use mathlib.Core.Path.{◌≡◌, refl}
use Rattle.station.specs.Strides.{usual_strides}
use Rattle.turns.specs.Stride.{stride_of, tides_by}

pub three : stride_of usual_strides (tides_by 300 100) ≡ 30
three = refl

pub none : stride_of usual_strides (tides_by 0 0) ≡ 180
none = refl
