-- 02, No. 6, "Strides chosen at the berth": the three lengths that a station carries.
-- Assumes nothing.
use Rattle.std.specs.Prelude.{ℕ, Bool, ◌||◌, ltb}
use Rattle.limits.specs.Limits.{most_stride}
use Rattle.station.specs.declared.strides.Strides.{Strides}

-- "three stride lengths in minutes, for semidiurnal, mixed and diurnal tides, each 1 to 720"
unfoldable pub stride_outside : ℕ → Bool
stride_outside minutes = ltb minutes 1 || ltb most_stride minutes

-- 35, "a stride outside its range"
unfoldable pub strides_outside : Strides → Bool
strides_outside strides = stride_outside strides.semidiurnal || stride_outside strides.mixed || stride_outside strides.diurnal

-- "With 180, 30 and 360 every turn is what 01 gives."
abbrev pub usual_strides : Strides
usual_strides = record { semidiurnal = 180; mixed = 30; diurnal = 360 }
