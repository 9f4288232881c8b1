-- 01, "Heights and turns": the slope of the water at a minute.
-- Assumes nothing.
use Rattle.std.specs.Prelude.{ℕ, ◌/◌, ◌^◌, List, [], ◌∷◌, ℤ, pos, neg_ℤ, ◌+ℤ◌, ◌*ℤ◌}
use Rattle.angles.specs.Floor.{floor_div}
use Rattle.cosine.specs.Fixed.{fixed_cosine, fixed_sine}
use Rattle.month_prepared.specs.Prepared.{Constituent, Month}
use Rattle.month_prepared.specs.Months.{at_owner}
use Rattle.heights.specs.Angle.{angle_at}

-- "floor((P × sine + Q × cosine)/2^30) × floor(frequency/1,000)", of the fixed sine and cosine at the angle
unfoldable pub fall : ℤ → ℤ → ℕ → ℕ → ℤ
fall p q frequency angle =
    floor_div (p *ℤ fixed_sine angle +ℤ q *ℤ fixed_cosine angle) (2 ^ 30) *ℤ pos (frequency / 1_000)

-- the sum over a station's constituents at a minute
unfoldable pub falls_at : List Constituent → ℕ → ℤ
falls_at [] minute = pos 0
falls_at (c ∷ cs) minute = fall c.p c.q c.frequency (angle_at c minute) +ℤ falls_at cs minute

-- "Slope is minus the sum"
unfoldable pub slope_at : List Constituent → ℕ → ℤ
slope_at cs minute = neg_ℤ (falls_at cs minute)

-- 02, No. 1: "with the slope of the month that owns each minute", in months that follow one another
abbrev pub slope_over : List Month → ℕ → ℤ
slope_over months = at_owner slope_at months
