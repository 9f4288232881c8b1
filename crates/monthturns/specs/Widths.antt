-- How wide the searches over a month's or a year's last minutes are: 02, No. 6, "The search works from the station's own lengths from now on".
-- Assumes nothing.
use Rattle.std.specs.Prelude.{ℕ, min, max}
use Rattle.station.specs.declared.strides.Strides.{Strides}
use Rattle.monthturns.specs.declared.widths.Widths.{Widths}

-- the three lengths, the widest first: the largest, the one between, the smallest
abbrev pub widest_of : ℕ → ℕ → ℕ → Widths
widest_of a b c =
    record { far = max (max a b) c; near = max (min a b) (min (max a b) c); end = min (min a b) c }

unfoldable pub widest_first : Strides → Widths
widest_first strides = widest_of strides.semidiurnal strides.mixed strides.diurnal
