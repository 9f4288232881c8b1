-- Only inner contracts cite this: the longitudes that the code's struct stands for, in 01's letters; and that they are below a turn.
use Rattle.std.specs.Prelude.{◌<◌}
use Rattle.angles.specs.Ticks.{turn}
use Rattle.month_arguments.specs.Longitudes.{Longitudes}
use Rattle.month_arguments.specs.declared.astronomy.Longitudes as code

abbrev pub longitudes_of : code.Longitudes → Longitudes
longitudes_of l = record { s = l.moon; h = l.sun; p = l.perigee; n' = l.node; p' = l.solar }

-- the longitudes that satellites go by are below a turn
pub record Reduced (l : code.Longitudes) : Type 0 where
  pub perigee : l.perigee < turn
  pub node : l.node < turn
  pub solar : l.solar < turn
