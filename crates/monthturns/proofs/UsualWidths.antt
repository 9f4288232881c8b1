-- With 01's own strides the searches are 360, 180 and 30 minutes wide, as 01's. Assumes nothing.
use mathlib.Core.Path.{◌≡◌, refl}
use Rattle.station.specs.Strides.{usual_strides}
use Rattle.monthturns.specs.Widths.{widest_first}

pub usual-widths : widest_first usual_strides ≡ record { far = 360; near = 180; end = 30 }
unfolding widest_first
usual-widths = refl
